-- WHAT PASSES BETWEEN A CALLER AND A CALLEE, by the rows of a table: the tuple without an object, or that of a row which has its state from the
-- tuple's object.
use Rattle.std.proofs.Common.{◌≡◌, inl, inr, sym, subst, nat_eq, Bool, true, cond, List, [], ◌∷◌, Contains}
use Rattle.std.specs.Prelude.{flat_map}
use Rattle.std.proofs.lemmas.Bool.{eqb-true, eq-eqb}
use Rattle.std.proofs.lemmas.List.Elements.{Contains-append_left, Contains-append_right, Contains-append_cases}
use Rattle.numbered_engine.specs.Following.{passed}
use Rattle.numbered_paths.proofs.Lists.{of_condition}
use Rattle.row_flows.proofs.Lists.{of_flat, the_first, to_flat}
use Rattle.row_flows.specs.Behind.{given, with_object}
use Rattle.row_flows.specs.declared.rows.Touched.{Touched}
use Rattle.row_flows.specs.declared.tuples.NumberedTuple.{NumberedTuple}

to_condition : (b : Bool) (v : NumberedTuple) → b ≡ true → Contains (cond b (v ∷ []) []) v
to_condition b v e = subst (λ q. Contains (cond q (v ∷ []) []) v) (sym e) (the_first v [])

module _ (rows : List Touched) (t : NumberedTuple) where
  pub data PassesTo (v : NumberedTuple) : Type 0 where
    StaysBare : t.object ≡ 0 → t ≡ v → PassesTo v
    TakesState : (x : Touched) → Contains rows x → x.source ≡ t.object → with_object t x.object ≡ v → PassesTo v

  pub passes_so : (v : NumberedTuple) → Contains (passed rows t) v → PassesTo v
  passes_so v h = elim (Contains-append_cases (cond (nat_eq t.object 0) (t ∷ []) []) (flat_map (given t) rows) v h) [
    | inl a ↦ let b = of_condition (nat_eq t.object 0) t v a in StaysBare (eqb-true t.object 0 b.0) b.1
    | inr a ↦
        let s = of_flat (given t) rows v a in
        let g = of_condition (nat_eq s.0.source t.object) (with_object t s.0.object) v s.2 in
        TakesState s.0 s.1 (eqb-true s.0.source t.object g.0) g.1
  ]

  pub bare_passes : t.object ≡ 0 → Contains (passed rows t) t
  bare_passes e = Contains-append_left (cond (nat_eq t.object 0) (t ∷ []) []) (flat_map (given t) rows) t (to_condition (nat_eq t.object 0) t (eq-eqb t.object 0 e))

  pub row_passes : (x : Touched) → Contains rows x → x.source ≡ t.object → Contains (passed rows t) (with_object t x.object)
  row_passes x c e = Contains-append_right (cond (nat_eq t.object 0) (t ∷ []) []) (flat_map (given t) rows) (with_object t x.object)
      (to_flat (given t) rows (with_object t x.object) (x, c, to_condition (nat_eq x.source t.object) (with_object t x.object) (eq-eqb x.source t.object e)))
