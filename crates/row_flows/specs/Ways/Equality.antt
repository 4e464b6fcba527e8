-- Equal to `≡` of tuples of numbers, by their parts; and what a hasher is fed of one.
-- Tuples of numbers are equal where their numbers are.
use Rattle.std.proofs.Common.{◌≡◌, ℕ, ◌*◌, ◌%◌, ◌^◌, nat_eq, true, ◌&&◌, List, bit_or, ap}
use Rattle.std.specs.Hash.{u64}
use Rattle.std.proofs.lemmas.Bool.{eqb-true}
use Rattle.least_set.specs.Ways.Same.{both}
use Rattle.row_flows.specs.declared.tuples.NumberedTuple.{NumberedTuple}

pub same_numbers : (x y : NumberedTuple) → nat_eq x.global y.global && (nat_eq x.state y.state && nat_eq x.object y.object) ≡ true → x ≡ y
same_numbers x y h =
    let outer = both (nat_eq x.global y.global) (nat_eq x.state y.state && nat_eq x.object y.object) h in
    let inner = both (nat_eq x.state y.state) (nat_eq x.object y.object) outer.1 in
    λ i. record {
      global = eqb-true x.global y.global outer.0 i;
      state = eqb-true x.state y.state inner.0 i;
      object = eqb-true x.object y.object inner.1 i;
    }

-- a hasher is fed its numbers as one
abbrev pub tuple_input : NumberedTuple → List (List ℕ)
tuple_input t = u64 (bit_or (bit_or t.object (t.state * 2 ^ 32 % 2 ^ 64)) (t.global * 2 ^ 48 % 2 ^ 64))

pub same_input : (x y : NumberedTuple) → nat_eq x.global y.global && (nat_eq x.state y.state && nat_eq x.object y.object) ≡ true → tuple_input x ≡ tuple_input y
same_input x y h = ap tuple_input (same_numbers x y h)
