-- Where the global state takes an alternative, the tuple without an object keeps none.
use Rattle.std.proofs.Common.{◌≡◌, refl, sym, subst, ℕ, nat_eq, Bool, true, false, cond, not, ◌||◌, List, Option, None, Some, true≢false}
use Rattle.std.specs.Prelude.{option_and_then, position, slice_get}
use Rattle.std.specs.Option.{option_map_or}
use Rattle.std.proofs.lemmas.List.Quantifiers.{position-Some}
use Rattle.std.proofs.lemmas.Option.{get_or_from_slice_get}
use Rattle.least_set.specs.Ways.Same.{both}
use Rattle.path_theory.proofs.SmallFacts.{none_known}
use Rattle.row_flows.specs.Choices.{bare, begins_globally, is_asked, leads_globally, next_state, state_behind, taken_place, takes}
use Rattle.row_flows.specs.declared.rows.Applied.{Applied}
use Rattle.row_flows.specs.declared.rows.EventRow.{EventRow}
use Rattle.row_flows.specs.declared.rows.NumberedTarget.{NumberedTarget}
use Rattle.row_flows.specs.declared.rows.NumberedTarget.TheVariants as target

leaves_state : (q : NumberedTarget) (x : ℕ) → leads_globally q ≡ true → state_behind q x ≡ x
leaves_state (target.Global q) x h = refl
leaves_state (target.Object q) x h = absurd (true≢false (sym h))

passes_at : {X : Type 0} (p : X → Bool) (xs : List X) (i : ℕ) (x : X) → position p xs ≡ Some i → slice_get xs i ≡ Some x → p x ≡ true
passes_at p xs i x e g = subst (λ y. p y ≡ true) (get_or_from_slice_get xs i x x g) (position-Some p xs i x e).1

unless : {X : Type 0} (b : Bool) (z : Option X) (x : X) → cond b None z ≡ Some x → z ≡ Some x
unless true z x e = none_known x e
unless false z x e = e

module _ (row : EventRow) (k : Bool) (own : List Bool) (g : ℕ) where
  taken_globally : (i : ℕ) (a : Applied) → taken_place row k own (bare g) ≡ Some i → slice_get row.applied.items i ≡ Some a → leads_globally a.target ≡ true
  taken_globally i a e s =
      let p = unless (nat_eq g 1 || not (is_asked row k own 0)) (position (takes row.is_exit (bare g)) row.applied.items) i e in
      (both (begins_globally g a.source) (leads_globally a.target) (passes_at (takes row.is_exit (bare g)) row.applied.items i a p s)).1

  -- behind the event it has no state
  pub bare_state : next_state row k own (bare g) ≡ 0
  bare_state = by_place (taken_place row k own (bare g)) refl
    where
      by_one : (i : ℕ) → taken_place row k own (bare g) ≡ Some i → (z : Option Applied) → slice_get row.applied.items i ≡ z → option_map_or (λ (a : Applied). state_behind a.target 0) z 0 ≡ 0
      by_one i e None s = refl
      by_one i e (Some a) s = leaves_state a.target 0 (taken_globally i a e s)

      by_place : (z : Option ℕ) → taken_place row k own (bare g) ≡ z → option_map_or (λ (a : Applied). state_behind a.target 0) (option_and_then (slice_get row.applied.items) z) 0 ≡ 0
      by_place None e = refl
      by_place (Some i) e = by_one i e (slice_get row.applied.items i) refl
