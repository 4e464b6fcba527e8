-- WHAT THE NUMBERS OF A TUPLE SAY of its fact, and the other way round.
use Rattle.std.proofs.Common.{◌≡◌, ◌∙◌, refl, sym, ap, subst, ℕ, Option, None, Some}
use Rattle.path_theory.specs.Facts.{NoObject, HasObject, Gives, GivesNone, GivesState, Objects}
use Rattle.path_theory.specs.FlowGraphs.{FlowGraphs}
use Rattle.path_theory.specs.Model.{Model}
use Rattle.path_theory.specs.Origins.{Origins}
use Rattle.path_theory.proofs.SmallFacts.{no_object_object, none_some}
use Rattle.row_flows.specs.Choices.{bare}
use Rattle.row_flows.specs.declared.tuples.NumberedTuple.{NumberedTuple}
use Rattle.numbered_paths.specs.RowParts.{IsNumberOf}
use Rattle.numbered_paths.specs.Views.{AreNumbers, IsBare, IsNumbered, IsOf, IsState, IsUnknown, Views, fact_at, fact_of}

-- where a state is given by no object, and by one
pub given_by_none : {O S : Type 0} {z : Option O} {x : Option S} → Gives z NoObject x → (z ≡ None) × (x ≡ None)
given_by_none GivesNone = (refl, refl)

pub given_by_object : {O S : Type 0} {z : Option O} {o : O} {x y : Option S} → Gives z (HasObject o y) x → (z ≡ Some o) × (y ≡ x)
given_by_object GivesState = (refl, refl)

pub bare_is : (t : NumberedTuple) → t.object ≡ 0 → t.state ≡ 0 → bare t.global ≡ t
bare_is t o s = λ i. record { global = t.global; state = sym s i; object = sym o i }

module _ (M : Model) (L : Origins M) (A : Objects M) (G : FlowGraphs M) (V : Views M G) (N : AreNumbers M A G V) (n : ℕ) where
  pub bare_fact : (t : NumberedTuple) → t.object ≡ 0 → fact_at M A G V n t ≡ NoObject
  bare_fact t e = ap (λ i. fact_of M A G V (V.object n i) (V.state t.state)) e ∙ ap (λ z. fact_of M A G V z (V.state t.state)) (N.no_object n)

  pub object_fact : (t : NumberedTuple) (o : M.Obj) → V.object n t.object ≡ Some o → fact_at M A G V n t ≡ HasObject o (V.state t.state)
  object_fact t o e = ap (λ z. fact_of M A G V z (V.state t.state)) e

  pub no_number : (i : ℕ) (o : M.Obj) → V.object n i ≡ Some o → i ≡ 0 → ⊥
  no_number i o h e = none_some (V.object n 0) o (N.no_object n) (subst (λ j. V.object n j ≡ Some o) e h)

  -- no two numbers are those of one object, or of none
  pub one_number : (z : Option M.Obj) (i j : ℕ) → IsNumberOf M L A G V n i z → IsNumberOf M L A G V n j z → i ≡ j
  one_number None i j a b = a ∙ sym b
  one_number (Some o) i j a b = N.objects n i j o a b

  pub state_of : (t : NumberedTuple) → IsNumbered M A G V n t → IsState M A G V t.state
  state_of t (IsBare o s) = IsUnknown s
  state_of t (IsOf o h s) = s

  pub bare_if : (t : NumberedTuple) → IsNumbered M A G V n t → t.object ≡ 0 → t.state ≡ 0
  bare_if t (IsBare o s) e = s
  bare_if t (IsOf o h s) e = absurd (no_number t.object o h e)

  -- what the fact gives is given by the number of the tuple's object
  pub origin : (t : NumberedTuple) {z : Option M.Obj} {x : Option M.State} → IsNumbered M A G V n t → Gives z (fact_at M A G V n t) x
      → IsNumberOf M L A G V n t.object z × (V.state t.state ≡ x)
  origin t {z = z} {x = x} (IsBare o s) g =
      let b = given_by_none (subst (λ y. Gives z y x) (bare_fact t o) g) in
      (subst (IsNumberOf M L A G V n t.object) (sym b.0) o, ap V.state s ∙ N.no_state ∙ sym b.1)
  origin t {z = z} {x = x} (IsOf o h s) g =
      let b = given_by_object (subst (λ y. Gives z y x) (object_fact t o h) g) in
      (subst (IsNumberOf M L A G V n t.object) (sym b.0) h, b.1)

  pub gives : (t : NumberedTuple) (z : Option M.Obj) → IsNumbered M A G V n t → IsNumberOf M L A G V n t.object z → Gives z (fact_at M A G V n t) (V.state t.state)
  gives t None i e =
      let s : V.state t.state ≡ None = ap V.state (bare_if t i e) ∙ N.no_state in
      subst (λ y. Gives None y (V.state t.state)) (sym (bare_fact t e)) (subst (Gives None NoObject) (sym s) GivesNone)
  gives t (Some o) i h = subst (λ y. Gives (Some o) y (V.state t.state)) (sym (object_fact t o h)) GivesState

  pub if_bare : (t : NumberedTuple) → IsNumbered M A G V n t → fact_at M A G V n t ≡ NoObject → t.object ≡ 0
  if_bare t (IsBare o s) e = o
  if_bare t (IsOf o h s) e = absurd (no_object_object o (V.state t.state) (sym (object_fact t o h) ∙ e))
