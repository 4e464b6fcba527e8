-- Followed calls are listed one after the other.
use Rattle.std.proofs.Common.{◌≡◌, ℕ, ◌+◌, ◌<◌, List, [], ◌∷◌, ◌++◌, map, length, take, get_or, Contains, All, Option, None, Some, slice_get, Bor, sym, ap, ◌∙◌, subst, append-nil, arith, inl, inr}
use Rattle.std.specs.Prelude.{IfSome}
use Rattle.std.specs.Option.{option_map, option_to_list}
use Rattle.std.proofs.lemmas.List.{map-append}
use Rattle.std.proofs.lemmas.List.Elements.{All-push, Contains-push, Contains-push_cases}
use Rattle.std.proofs.lemmas.Option.{same_Some}
use Rattle.flow_graph.specs.Seen.{graph_in}
use Rattle.function_tables.specs.declared.table.FunctionTable.{FunctionTable}
use Rattle.least_set.specs.Logs.{IsExactly, Adds, SomeGives}
use Rattle.least_set.proofs.Growing.{nothing, before_or_at, adds_none, adds_same, adds_next, either, kept}
use Rattle.relevant.specs.ProgramRows.Ends.{Followed, followed_in, followed_at, HasFollowed, SomeHasFollowed, IsSite}
use Rattle.flow_graph.specs.ReachedBlocks.Reached.{Reaches}
use Rattle.relevant.specs.declared.relevant_objects.rows.FollowedCall.{FollowedCall}
use Rattle.typed_unit.specs.declared.typed_unit.TypedUnit.{TypedUnit}

-- one was put last, if there is one
one-added : (k : Option FollowedCall) (o : Option Followed) (old new : List FollowedCall) → option_map followed_in k ≡ o → new ≡ old ++ option_to_list k → Adds (λ f. o ≡ Some f) (map followed_in old) (map followed_in new)
one-added None o old new is e = subst (λ (l : List FollowedCall). Adds (λ f. o ≡ Some f) (map followed_in old) (map followed_in l)) (sym (e ∙ append-nil old)) (adds_none (map followed_in old) (λ f s. let z : None ≡ Some f = is ∙ s in cc))
one-added (Some k) o old new is e =
    let whole = ap (map followed_in) e ∙ map-append followed_in old (k ∷ []) in
    record {
      more = followed_in k ∷ [];
      whole = whole;
      added = λ f s. subst (Contains (map followed_in new)) (same_Some (followed_in k) f (is ∙ s)) (subst (λ l. Contains l (followed_in k)) (sym whole) (Contains-push (map followed_in old) (followed_in k)));
      only = λ f h. elim (Contains-push_cases [] (followed_in k) f h) [ inl o ↦ absurd (nothing f o) | inr q ↦ sym is ∙ ap Some q ];
    }

-- its site is that of the program
pub sites-next : (units : List (Bor TypedUnit)) (k : Option FollowedCall) (old new : List FollowedCall) → IfSome k (IsSite units) → new ≡ old ++ option_to_list k → All (IsSite units) old → All (IsSite units) new
sites-next units None old new s e all = subst (All (IsSite units)) (sym (e ∙ append-nil old)) all
sites-next units (Some k) old new s e all = subst (All (IsSite units)) (sym e) (All-push (IsSite units) old k all s)

module _ (t : FunctionTable) (caller : ℕ) where
  abbrev pub EndsIn : ℕ → Followed → Type 0
  EndsIn b f = followed_at t caller b ≡ Some f

  -- those of one more block
  pub calls-next : (blocks : List ℕ) (i d : ℕ) (k : Option FollowedCall) (start old new : List FollowedCall) → i < length blocks → option_map followed_in k ≡ followed_at t caller (get_or blocks i d) → new ≡ old ++ option_to_list k
      → Adds (SomeGives EndsIn (take i blocks)) (map followed_in start) (map followed_in old) → Adds (SomeGives EndsIn (take (i + 1) blocks)) (map followed_in start) (map followed_in new)
  calls-next blocks i d k start old new within is e v = adds_next EndsIn blocks i d within v (one-added k (followed_at t caller (get_or blocks i d)) old new is e)

  -- those of the blocks that control reaches are those of the function
  pub calls-of : (tables : List FunctionTable) (blocks : List ℕ) (old new : List Followed) → slice_get tables caller ≡ Some t → IsExactly blocks (Reaches (graph_in t.graph.now)) → Adds (SomeGives EndsIn blocks) old new → Adds (HasFollowed tables caller) old new
  calls-of tables blocks old new at all v = adds_same v
      (λ f s. record { table = t; is = at; block = s.0; reached = all.0 s.0 s.1; ends = s.2 })
      (λ f h.
      let same : h.table ≡ t = same_Some h.table t (sym h.is ∙ at) in
      (h.block, all.1 h.block (subst (λ (x : FunctionTable). Reaches (graph_in x.graph.now) h.block) same h.reached), subst (λ (x : FunctionTable). followed_at x caller h.block ≡ Some f) same h.ends))

module _ (tables : List FunctionTable) where
  -- at first there are none
  pub none-followed : IsExactly [] (SomeHasFollowed tables 0)
  none-followed = (λ f h. absurd (nothing f h), λ f h. let below = h.1 in absurd (omega (arith, below)))

  -- those of one more function
  pub functions-next : (i : ℕ) (old new : List Followed) → Adds (HasFollowed tables i) old new → IsExactly old (SomeHasFollowed tables i) → IsExactly new (SomeHasFollowed tables (i + 1))
  functions-next i old new v all = (
    λ f h. elim (either v f h) [ inl o ↦ let s = all.0 f o in let below = s.1 in (s.0, omega (arith, below), s.2) | inr p ↦ (i, omega arith, p) ],
    λ f h. elim (before_or_at i h.0 h.1) [ inl l ↦ kept v f (all.1 f (h.0, l, h.2)) | inr e ↦ v.added f (subst (λ n. HasFollowed tables n f) e h.2) ],
  )
