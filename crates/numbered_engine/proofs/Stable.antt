-- Where equality can be tested, it can be tested whether a list has a value: so what is known of that only somehow is known.
use Rattle.std.proofs.Common.{◌≡◌, ◌∙◌, refl, sym, ap, subst, nat_eq, Bool, true, false, ◌&&◌, ◌||◌, List, [], ◌∷◌, Contains, inl, inr}
use Rattle.std.proofs.Math.Bool.{Bool-set}
use Rattle.std.proofs.Math.Logic.{∥∥₁_elim}
use Rattle.std.specs.List.{list_any}
use Rattle.std.proofs.lemmas.Bool.{eq-eqb, eqb-true}
use Rattle.std.proofs.lemmas.List.Elements.{Contains-append_cases}
use Rattle.std.proofs.lemmas.Map.Views.{Contains-from_any}
use Rattle.least_set.specs.Logs.{IsExactly}
use Rattle.least_set.specs.Ways.Same.{both}
use Rattle.least_set.proofs.Growing.{nothing}
use Rattle.row_flows.proofs.Lists.{the_one}
use Rattle.row_flows.specs.Ways.Equality.{same_numbers}
use Rattle.row_flows.specs.contracts.behind.FiringPartialEq.TheImpl.{eq-value as firings_agree}
use Rattle.row_flows.specs.contracts.tuples.NumberedTuplePartialEq.TheImpl.{eq-value as tuples_agree}
use Rattle.numbered_engine.specs.Ways.Equality.{contexts_agree, edges_agree}
use Rattle.numbered_engine.specs.declared.edges.NumberedContext.{NumberedContext}
use Rattle.numbered_engine.specs.declared.edges.NumberedEdge.{NumberedEdge}
use Rattle.row_flows.specs.declared.behind.Firing.{Firing}
use Rattle.row_flows.specs.declared.tuples.NumberedTuple.{NumberedTuple}

both_so : (a b : Bool) → a ≡ true → b ≡ true → a && b ≡ true
both_so a b e f = ap (λ c. c && b) e ∙ f

last_so : (b c : Bool) → c ≡ true → b || c ≡ true
last_so true c e = refl
last_so false c e = e

module _ {E : Type 0} (eq : E → E → Bool) (same : (x y : E) → eq x y ≡ true → x ≡ y) (itself : (x : E) → eq x x ≡ true) where
  found : (x : E) (xs : List E) → Contains xs x → list_any (eq x) xs ≡ true
  found x [] c = absurd (nothing x c)
  found x (y ∷ ys) c = elim (Contains-append_cases (y ∷ []) ys x c) [
    | inl a ↦ ap (λ b. b || list_any (eq x) ys) (subst (λ z. eq x z ≡ true) (sym (the_one y x a)) (itself x))
    | inr b ↦ last_so (eq x y) (list_any (eq x) ys) (found x ys b)
  ]

  pub exactly_known : (xs ys : List E) → ∥ IsExactly xs (Contains ys) ∥₁ → IsExactly xs (Contains ys)
  exactly_known xs ys known = (
    λ x m. Contains-from_any same x ys (∥∥₁_elim known (Bool-set _ _) (λ e. found x ys (e.0 x m))),
    λ x m. Contains-from_any same x xs (∥∥₁_elim known (Bool-set _ _) (λ e. found x xs (e.1 x m))),
  )

tuple_itself : (t : NumberedTuple) → tuples_agree.it t t ≡ true
tuple_itself t = both_so (nat_eq t.global t.global) (nat_eq t.state t.state && nat_eq t.object t.object) (eq-eqb t.global t.global refl)
    (both_so (nat_eq t.state t.state) (nat_eq t.object t.object) (eq-eqb t.state t.state refl) (eq-eqb t.object t.object refl))

-- contexts and edges are equal to themselves
context_itself : (k : NumberedContext) → contexts_agree k k ≡ true
context_itself k = both_so (nat_eq k.function k.function) (tuples_agree.it k.entry k.entry) (eq-eqb k.function k.function refl) (tuple_itself k.entry)

pub edge_itself : (e : NumberedEdge) → edges_agree e e ≡ true
edge_itself e = both_so (contexts_agree e.context e.context) (nat_eq e.block e.block && tuples_agree.it e.tuple e.tuple) (context_itself e.context)
    (both_so (nat_eq e.block e.block) (tuples_agree.it e.tuple e.tuple) (eq-eqb e.block e.block refl) (tuple_itself e.tuple))

-- tuples
pub tuples_known : (xs ys : List NumberedTuple) → ∥ IsExactly xs (Contains ys) ∥₁ → IsExactly xs (Contains ys)
tuples_known = exactly_known tuples_agree.it same_numbers tuple_itself

firing_itself : (x : Firing) → firings_agree.it x x ≡ true
firing_itself x = both_so (nat_eq x.event x.event) (nat_eq x.object x.object && nat_eq x.place x.place) (eq-eqb x.event x.event refl)
    (both_so (nat_eq x.object x.object) (nat_eq x.place x.place) (eq-eqb x.object x.object refl) (eq-eqb x.place x.place refl))

same_firing : (x y : Firing) → firings_agree.it x y ≡ true → x ≡ y
same_firing x y h =
    let outer = both (nat_eq x.event y.event) (nat_eq x.object y.object && nat_eq x.place y.place) h in
    let inner = both (nat_eq x.object y.object) (nat_eq x.place y.place) outer.1 in
    λ i. record { event = eqb-true x.event y.event outer.0 i; object = eqb-true x.object y.object inner.0 i; place = eqb-true x.place y.place inner.1 i }

-- and firings
pub firings_known : (xs ys : List Firing) → ∥ IsExactly xs (Contains ys) ∥₁ → IsExactly xs (Contains ys)
firings_known = exactly_known firings_agree.it same_firing firing_itself
