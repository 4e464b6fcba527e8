-- Rows are made one after the other.
use Rattle.std.proofs.Common.{◌≡◌, inl, inr, ℕ, List, [], ◌∷◌, ◌++◌, length, Contains, Option, None, Some, slice_get, Bor, refl, sym, ap, ◌∙◌, subst}
use Rattle.std.specs.Prelude.{flat_map}
use Rattle.std.specs.Option.{option_to_list}
use Rattle.std.proofs.lemmas.Option.{same_Some}
use Rattle.flow_graph.specs.CPaths.Membership.{Among}
use Rattle.function_tables.specs.declared.table.FunctionTable.{FunctionTable}
use Rattle.least_set.specs.Logs.{IsExactly}
use Rattle.least_set.proofs.Growing.{place_of, at_place}
use Rattle.relevant.specs.ProgramRows.Filing.{Meets, MeetsAt}
use Rattle.relevant.specs.ProgramRows.Made.{IsOf, IsMade, AreMade}
use Rattle.relevant.proofs.ProgramRows.Lists.{contains-joined, joined-contains, placed}
use Rattle.relevant.specs.declared.relevant_objects.rows.FollowedCall.{FollowedCall}
use Rattle.relevant.specs.declared.relevant_objects.rows.FunctionRow.{FunctionRow}
use Rattle.typed_unit.specs.declared.typed_unit.TypedUnit.{TypedUnit}

-- those at the positions of a function's calls are its calls
pub calls-at : (calls : List FollowedCall) (n : ℕ) (ps : List ℕ) (list : List FollowedCall) → IsExactly ps (MeetsAt calls n) → list ≡ flat_map (λ i. option_to_list (slice_get calls i)) ps → IsExactly list (IsOf calls n)
calls-at calls n ps list filed is = (
  λ k h.
      let s = joined-contains at ps k (subst (λ (l : List FollowedCall). Contains l k) is h) in
      let stands = one (slice_get calls s.0) k s.2 in
      let m = filed.0 s.0 s.1 in
      (at_place calls s.0 k stands, subst (Meets n) (same_Some m.0 k (sym m.1 ∙ stands)) m.2),
  λ k h.
      let p = place_of calls k h.0 in
      subst (λ (l : List FollowedCall). Contains l k) (sym is) (contains-joined at ps p.0 k (filed.1 p.0 (k, p.2, h.1)) (subst (λ o. Among k (option_to_list o)) (sym p.2) (inl refl))),
)
  where
    at : ℕ → List FollowedCall
    at i = option_to_list (slice_get calls i)

    one : (o : Option FollowedCall) (k : FollowedCall) → Among k (option_to_list o) → o ≡ Some k
    one None k h = absurd h
    one (Some q) k (inl e) = ap Some (sym e)
    one (Some q) k (inr h) = absurd h

module _ (units : List (Bor TypedUnit)) (tables : List FunctionTable) (calls : List FollowedCall) where
  pub no-rows : AreMade units tables calls []
  no-rows n row e = cc

  -- one row more
  pub rows-next : (n : ℕ) (row : FunctionRow) (old new : List FunctionRow) → length old ≡ n → new ≡ old ++ (row ∷ []) → IsMade units tables calls n row → AreMade units tables calls old → AreMade units tables calls new
  rows-next n row old new count e made all m r at = elim (placed old row m r (sym (ap (λ (l : List FunctionRow). slice_get l m) e) ∙ at)) [
    | inl o ↦ all m r o
    | inr p ↦ subst (IsMade units tables calls m) p.1 (subst (λ k. IsMade units tables calls k row) (sym count ∙ p.0) made)
  ]
