-- The tuples that stand between two events of a block.
use Rattle.std.proofs.Common.{◌≡◌, inl, inr, ℕ, Bool, List, [], ◌∷◌, Contains, refl, sym, ap, subst, ◌∙◌}
use Rattle.block_flows.specs.Ends.{IsEnd}
use Rattle.c_objects.specs.Objects.{Object}
use Rattle.path_model.specs.CheckerModel.Checkers.{model}
use Rattle.path_model.specs.CheckerModel.Choices.{State, next_global}
use Rattle.path_model.specs.CheckerModel.Happenings.{Function, Happening}
use Rattle.path_model.specs.CheckerModel.Reports.{Checker}
use Rattle.path_theory.specs.EventWalks.Walks.{Walks, Stands}
use Rattle.path_theory.proofs.EventWalks.Walking.{stands-start, stands-next, stands-end, ends-stand}
use Rattle.least_set.specs.Logs.{IsExactly, SomeGives}
use Rattle.least_set.proofs.Growing.{nothing}
use Rattle.path_theory.specs.Facts.{FactOf}
use Rattle.path_theory.specs.Flows.{EventFlow}
use Rattle.state_tuples.specs.declared.tuple.Tuple.{Tuple}
use Rattle.block_flows.specs.TupleFlows.Behind.{IsBehind}
use Rattle.block_flows.specs.TupleFlows.Facts.{fact_in, listed, origins_in}
use Rattle.block_flows.proofs.TupleFlows.Lists.{contains-first, contains-cases}
use Rattle.block_flows.proofs.TupleFlows.Tuples.{tuple_of, tuple_of-fact, tuple_of-global, same-tuple}

-- one of the list has this global state and this fact
abbrev pub standing : List Tuple → ℕ → FactOf Object State → Type 0
standing now g t = (v : Tuple) × Contains now v × (v.global ≡ g) × (fact_in v ≡ t)

pub alone : (t : Tuple) → standing (t ∷ []) t.global (fact_in t)
alone t = (t, contains-first t [], refl, refl)

pub no-other : (t : Tuple) (g : ℕ) (u : FactOf Object State) → standing (t ∷ []) g u → (g ≡ t.global) × (u ≡ fact_in t)
no-other t g u (v, m, p, q) = elim (contains-cases t v [] m) [
  | inl e ↦ (sym p ∙ ap (λ z. z.global) (sym e), sym q ∙ ap fact_in (sym e))
  | inr n ↦ absurd (nothing v n)
]

module _ (c : Checker) (f : Function) (k : Bool) (followed : List Object) where
  abbrev Flow : Happening → ℕ → FactOf Object State → FactOf Object State → Type 0
  Flow h = EventFlow (model c) (origins_in c followed followed) (listed c followed) f k h

  abbrev pub OnWay : List Happening → List Happening → Tuple → List Tuple → Type 0
  OnWay hs left t now = Stands (model c) (origins_in c followed followed) (listed c followed) f k hs left t.global (fact_in t) (standing now)

  came-from : (h : Happening) (now new : List Tuple) → IsExactly new (SomeGives (IsBehind c h f k followed) now) → (i : ℕ) (u : FactOf Object State) → standing new i u
      → (g : ℕ) × (t : FactOf Object State) × standing now g t × (i ≡ next_global c.machine c.depth h f k g) × Flow h g t u
  came-from h now new e i u (v, m, p, q) =
      let s = e.0 v m in
      (s.0.global, fact_in s.0, (s.0, s.1, refl, refl), sym p ∙ s.2.global, subst (Flow h s.0.global (fact_in s.0)) q s.2.fact)

  goes-to : (h : Happening) (now new : List Tuple) → IsExactly new (SomeGives (IsBehind c h f k followed) now) → (g : ℕ) (t u : FactOf Object State) → standing now g t → Flow h g t u
      → standing new (next_global c.machine c.depth h f k g) u
  goes-to h now new e g t u (w, m, p, q) flow =
      let next = next_global c.machine c.depth h f k in
      let v = tuple_of (next g) u in
      let at = subst (λ z. Flow h z t u) (sym p) flow in
      let from = subst (λ z. Flow h w.global z u) (sym q) at in
      let to = subst (Flow h w.global (fact_in w)) (sym (tuple_of-fact (next g) u)) from in
      (v, e.1 v (w, m, record { global = tuple_of-global (next g) u ∙ ap next (sym p); fact = to }), tuple_of-global (next g) u, tuple_of-fact (next g) u)

  pub walks : (h : Happening) (now new : List Tuple) → IsExactly new (SomeGives (IsBehind c h f k followed) now)
      → Walks (model c) (origins_in c followed followed) (listed c followed) f k h (standing now) (standing new)
  walks h now new e = record { real = came-from h now new e; whole = goes-to h now new e }

  pub way-start : (hs : List Happening) (t : Tuple) → OnWay hs hs t (t ∷ [])
  way-start hs t = stands-start (model c) (origins_in c followed followed) (listed c followed) f k hs t.global (fact_in t) (standing (t ∷ [])) (alone t) (no-other t)

  pub way-next : (hs : List Happening) (h : Happening) (old left : List Happening) (t : Tuple) (now new : List Tuple) → old ≡ h ∷ left → OnWay hs old t now
      → IsExactly new (SomeGives (IsBehind c h f k followed) now) → OnWay hs left t new
  way-next hs h old left t now new e s x =
      stands-next (model c) (origins_in c followed followed) (listed c followed) f k hs h left t.global (fact_in t) (standing now) (standing new) (subst (λ z. OnWay hs z t now) e s) (walks h now new x)

  pub way-end : (hs left : List Happening) (t : Tuple) (now : List Tuple) → left ≡ [] → OnWay hs left t now → IsExactly now (IsEnd c hs f k followed t)
  way-end hs left t now e s =
      let at = subst (λ z. OnWay hs z t now) e s in (
        λ u m. ends-stand (model c) (origins_in c followed followed) (listed c followed) f k hs t.global (fact_in t) (standing now) at u.global (fact_in u) (u, m, refl, refl),
        λ u w. found u (stands-end (model c) (origins_in c followed followed) (listed c followed) f k hs t.global (fact_in t) (standing now) at u.global (fact_in u) w),
      )
    where
      found : (u : Tuple) → standing now u.global (fact_in u) → Contains now u
      found u (v, m, p, q) = subst (Contains now) (same-tuple v u p q) m
