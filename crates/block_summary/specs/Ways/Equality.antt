-- Equal to `≡` of how blocks are entered, and of rows of marks, by their parts.
-- Blocks are entered in the same way where the block, the tuple and the kind of frame are the same.
use Rattle.std.proofs.Common.{◌≡◌, nat_eq, Bool, true, false, ◌&&◌, refl, sym, true≢false}
use Rattle.std.proofs.lemmas.Bool.{eqb-true}
use Rattle.std.specs.Bool.{beq}
use Rattle.least_set.specs.Ways.Same.{both}
use Rattle.row_flows.specs.Ways.Equality.{same_numbers}
use Rattle.row_flows.specs.contracts.tuples.NumberedTuplePartialEq.TheImpl.{eq-value as tuples_agree}
use Rattle.block_summary.specs.declared.keys.Entered.{Entered}
use Rattle.block_summary.specs.declared.keys.MarkRow.{MarkRow}

same_kind : (a b : Bool) → beq a b ≡ true → a ≡ b
same_kind true true h = refl
same_kind true false h = absurd (true≢false (sym h))
same_kind false true h = absurd (true≢false (sym h))
same_kind false false h = refl

pub same_entered : (x y : Entered) → nat_eq x.function y.function && (nat_eq x.block y.block && (tuples_agree.it x.tuple y.tuple && beq x.is_root y.is_root)) ≡ true → x ≡ y
same_entered x y h =
    let first = both (nat_eq x.function y.function) (nat_eq x.block y.block && (tuples_agree.it x.tuple y.tuple && beq x.is_root y.is_root)) h in
    let second = both (nat_eq x.block y.block) (tuples_agree.it x.tuple y.tuple && beq x.is_root y.is_root) first.1 in
    let third = both (tuples_agree.it x.tuple y.tuple) (beq x.is_root y.is_root) second.1 in
    λ i. record {
      function = eqb-true x.function y.function first.0 i;
      block = eqb-true x.block y.block second.0 i;
      tuple = same_numbers x.tuple y.tuple third.0 i;
      is_root = same_kind x.is_root y.is_root third.1 i;
    }

pub same_mark_row : (x y : MarkRow) → nat_eq x.function y.function && (tuples_agree.it x.tuple y.tuple && beq x.is_root y.is_root) ≡ true → x ≡ y
same_mark_row x y h =
    let first = both (nat_eq x.function y.function) (tuples_agree.it x.tuple y.tuple && beq x.is_root y.is_root) h in
    let second = both (tuples_agree.it x.tuple y.tuple) (beq x.is_root y.is_root) first.1 in
    λ i. record {
      function = eqb-true x.function y.function first.0 i;
      tuple = same_numbers x.tuple y.tuple second.0 i;
      is_root = same_kind x.is_root y.is_root second.1 i;
    }
