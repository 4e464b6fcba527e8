-- What stands for one thing has one number: tuples with the same global state and the same fact are the same.
use Rattle.std.proofs.Common.{◌≡◌, ◌∙◌, refl, sym, ap, true≢false, eq-eqb, ℕ, nat_eq, false, Option, None, Some}
use Rattle.numbered_engine.specs.Waiting.{restored}
use Rattle.numbered_paths.specs.Views.{AreNumbers, IsNumbered, IsBare, IsOf, IsState, IsUnknown, IsKnown, Views, fact_at, fact_of}
use Rattle.path_theory.specs.Facts.{NoObject, HasObject, Objects}
use Rattle.path_theory.specs.FlowGraphs.{FlowGraphs}
use Rattle.path_theory.specs.Model.{Model}
use Rattle.path_theory.proofs.SmallFacts.{none_some, no_object_object}
use Rattle.row_flows.specs.declared.tuples.NumberedTuple.{NumberedTuple}

module _ (M : Model) (A : Objects M) (G : FlowGraphs M) (V : Views M G) where
  -- the object of a fact is that of the number
  pub object_of : (q : Option M.Obj) (x : Option M.State) (o : M.Obj) (z : Option M.State) → fact_of M A G V q x ≡ HasObject o z → q ≡ Some o
  object_of None x o z e = no_object_object o z (sym e)
  object_of (Some b) x o z e = let d : b ≡ o = cc in ap Some d

  pub no_object_of : (q : Option M.Obj) (x : Option M.State) → fact_of M A G V q x ≡ NoObject → q ≡ None
  no_object_of None x e = refl
  no_object_of (Some b) x e = no_object_object b x e

  state_of : (q : Option M.Obj) (x : Option M.State) (o : M.Obj) (z : Option M.State) → fact_of M A G V q x ≡ HasObject o z → x ≡ z
  state_of None x o z e = no_object_object o z (sym e)
  state_of (Some b) x o z e = cc

  pub restored_numbered : (n : ℕ) (t end : NumberedTuple) → IsNumbered M A G V n t → IsNumbered M A G V n (restored t end)
  restored_numbered n t end (IsBare o x) = IsBare o x
  restored_numbered n t end (IsOf o e x) = IsOf o e x

  -- a tuple with an object has one
  pub has_object : (n : ℕ) (t : NumberedTuple) → IsNumbered M A G V n t → nat_eq t.object 0 ≡ false → (o : M.Obj) × (V.object n t.object ≡ Some o)
  has_object n t (IsBare o x) h = absurd (true≢false (sym (eq-eqb t.object 0 o) ∙ h))
  has_object n t (IsOf o e x) h = (o, e)

  pub fact_with : (n : ℕ) (t : NumberedTuple) (o : M.Obj) → V.object n t.object ≡ Some o → fact_at M A G V n t ≡ HasObject o (V.state t.state)
  fact_with n t o e = ap (λ q. fact_of M A G V q (V.state t.state)) e

  module _ (N : AreNumbers M A G V) where
    pub bare_fact : (n : ℕ) (t : NumberedTuple) → t.object ≡ 0 → fact_at M A G V n t ≡ NoObject
    bare_fact n t e = ap (λ i. fact_of M A G V (V.object n i) (V.state t.state)) e ∙ ap (λ q. fact_of M A G V q (V.state t.state)) (N.no_object n)

    -- a tuple without an object has its number 0
    pub bare_number : (n : ℕ) (t : NumberedTuple) → IsNumbered M A G V n t → fact_at M A G V n t ≡ NoObject → t.object ≡ 0
    bare_number n t (IsBare o x) h = o
    bare_number n t (IsOf o e x) h = no_object_object o (V.state t.state) (sym (fact_with n t o e) ∙ h)

    same_state : (x y : ℕ) → IsState M A G V x → IsState M A G V y → V.state x ≡ V.state y → x ≡ y
    same_state x y (IsUnknown a) (IsUnknown b) h = a ∙ sym b
    same_state x y (IsUnknown a) (IsKnown s e) h = none_some (V.state y) s (sym h ∙ (ap V.state a ∙ N.no_state)) e
    same_state x y (IsKnown s e) (IsUnknown b) h = none_some (V.state x) s (h ∙ (ap V.state b ∙ N.no_state)) e
    same_state x y (IsKnown s e) (IsKnown z f) h = N.states x y z (h ∙ f) f

    pub same_tuple : (n : ℕ) (t u : NumberedTuple) → IsNumbered M A G V n t → IsNumbered M A G V n u → t.global ≡ u.global → fact_at M A G V n t ≡ fact_at M A G V n u → t ≡ u
    same_tuple n t u (IsBare a x) (IsBare b y) g h = λ i. record { global = g i; state = (x ∙ sym y) i; object = (a ∙ sym b) i }
    same_tuple n t u (IsBare a x) (IsOf o e y) g h = no_object_object o (V.state u.state) (sym (fact_with n u o e) ∙ (sym h ∙ bare_fact n t a))
    same_tuple n t u (IsOf o e x) (IsBare b y) g h = no_object_object o (V.state t.state) (sym (fact_with n t o e) ∙ (h ∙ bare_fact n u b))
    same_tuple n t u (IsOf o e x) (IsOf b f y) g h =
        let there = h ∙ fact_with n u b f in
        let object = N.objects n t.object u.object b (object_of (V.object n t.object) (V.state t.state) b (V.state u.state) there) f in
        let state = same_state t.state u.state x y (state_of (V.object n t.object) (V.state t.state) b (V.state u.state) there) in
        λ i. record { global = g i; state = state i; object = object i }
