-- Tuples behind moves: the lists that the code makes have exactly these.
use Rattle.std.proofs.Common.{◌≡◌, ◌⊎◌, inl, inr, ℕ, List, [], ◌∷◌, ◌++◌, Bool, true, false, Option, None, Some, Contains, IsTrue, refl, sym, ap, subst, ◌∙◌}
use Rattle.std.specs.Prelude.{is_some}
use Rattle.c_objects.specs.Objects.{Object}
use Rattle.c_objects.proofs.Plain.{if-object}
use Rattle.path_model.specs.CheckerModel.Choices.{State}
use Rattle.path_model.specs.CheckerModel.Moves.{Move, source}
use Rattle.least_set.specs.Logs.{IsExactly, SomeGives}
use Rattle.least_set.proofs.Growing.{nothing}
use Rattle.path_theory.specs.Facts.{FactOf, NoObject, HasObject, Gives, IfNoObject}
use Rattle.state_tuples.specs.declared.tuple.Tuple.{Tuple}
use Rattle.block_flows.specs.TupleFlows.Facts.{fact_of, fact_in, is_in, with_object, without_object}
use Rattle.block_flows.specs.TupleFlows.Moved.{AreObjects, MoveFlow, MovesNone, MovesObject, IsMoved, source_in}
use Rattle.block_flows.proofs.TupleFlows.Followed.{contains-in, in-contains, from-some, some-from}
use Rattle.block_flows.proofs.TupleFlows.Lists.{exactly-push, exactly-same}
use Rattle.block_flows.proofs.TupleFlows.Tuples.{same-tuple, given-object, given-state, gives}

none≢some : (o : Object) → None ≡ Some o → ⊥
none≢some o h = cc

-- where nothing moves, an object that is followed has its own state
pub stays-itself : (depth : ℕ) (followed : List Object) (o : Object) → AreObjects depth followed → Contains followed o → source_in depth None followed o ≡ Some o
stays-itself depth followed o are m =
    let i = contains-in followed o m in
    from-some followed followed o (source depth None o) o i i (if-object depth o (are o m))

-- so none is unknown there
pub none-unknown : (depth : ℕ) (m : Option Move) (followed : List Object) (F : Object → Tuple → Type 0) → is_some m ≡ false → AreObjects depth followed
    → IsExactly [] (SomeGives (λ o u. (source_in depth m followed o ≡ None) × F o u) followed)
none-unknown depth None followed F h are = (
  λ u m. absurd (nothing u m),
  λ u s. absurd (none≢some s.0 (sym s.2.0 ∙ stays-itself depth followed s.0 are s.1)),
)
none-unknown depth (Some m) followed F h are = absurd (true≢false h)
  where
    true≢false : true ≡ false → ⊥
    true≢false e = cc

module _ (depth : ℕ) (m : Option Move) (followed : List Object) (t : Tuple) where
  abbrev S : Object → Option Object
  S = source_in depth m followed

  -- a flow to an object, by the parts of the tuple
  to-object : (v u : FactOf Object State) (o : Object) (x : Option State) → HasObject o x ≡ u → MoveFlow depth m followed v u
      → IfNoObject v (IsTrue (is_in followed o)) × Gives (S o) v x
  to-object _ _ o x e MovesNone = absurd (by e)
    where
      by : HasObject o x ≡ NoObject → ⊥
      by h = cc
  to-object v _ o x e (MovesObject p y i s) =
      let a : p ≡ o = cc in
      let b : y ≡ x = cc in
      (subst (λ z. IfNoObject v (IsTrue (is_in followed z))) a i, subst (λ z. Gives (S z) v x) a (subst (λ z. Gives (S p) v z) b s))

  -- one of these objects, in the state of the tuple
  with-moved : (o : Object) → IfNoObject (fact_in t) (IsTrue (is_in followed o)) → S o ≡ t.object → IsMoved depth m followed t (with_object t o)
  with-moved o i s = record {
    global = refl;
    fact = MovesObject o t.state i (gives (S o) t.object t.state t.bare s);
  }

  moved-with : (u : Tuple) (o : Object) (x : Option State) → IsMoved depth m followed t u → HasObject o x ≡ fact_in u
      → IfNoObject (fact_in t) (IsTrue (is_in followed o)) × (S o ≡ t.object) × (with_object t o ≡ u)
  moved-with u o x w e =
      let b = to-object (fact_in t) (fact_in u) o x e w.fact in
      let same : x ≡ t.state = given-state (S o) t.object t.state x t.bare b.1 in (
        b.0,
        given-object (S o) t.object t.state x b.1,
        same-tuple (with_object t o) u (sym w.global) (ap (HasObject o) (sym same) ∙ e),
      )

  -- THE TUPLES OF AN OBJECT behind the move: one for each that has its state from it
  pub of-object : (b : Object) (out : List Tuple) → t.object ≡ Some b → IsExactly out (SomeGives (λ o u. (source_in depth m followed o ≡ Some b) × (with_object t o ≡ u)) followed)
      → IsExactly out (IsMoved depth m followed t)
  of-object b out e x = exactly-same (SomeGives (λ o u. (S o ≡ Some b) × (with_object t o ≡ u)) followed) (IsMoved depth m followed t) out x
      (λ u s. subst (IsMoved depth m followed t) s.2.1 (with-moved s.0 (asked t.object e s.0) (s.2.0 ∙ sym e)))
      (λ u w. back u w (fact_in u) refl)
    where
      asked : (q : Option Object) → q ≡ Some b → (o : Object) → IfNoObject (fact_of q t.state) (IsTrue (is_in followed o))
      asked None h o = absurd (none≢some b h)
      asked (Some c) h o = tt

      keeps : (q : Option Object) → q ≡ Some b → (v : FactOf Object State) → v ≡ NoObject → MoveFlow depth m followed (fact_of q t.state) v → ⊥
      keeps None h v k w = none≢some b h
      keeps (Some c) h v k w = by c v k w
        where
          by : (c : Object) (v : FactOf Object State) → v ≡ NoObject → MoveFlow depth m followed (HasObject c t.state) v → ⊥
          by c _ k (MovesObject o x i s) = has≢no o x k
            where
              has≢no : (o : Object) (x : Option State) → HasObject o x ≡ NoObject → ⊥
              has≢no o x z = cc

      back : (u : Tuple) → IsMoved depth m followed t u → (v : FactOf Object State) → v ≡ fact_in u
          → SomeGives (λ o u. (S o ≡ Some b) × (with_object t o ≡ u)) followed u
      back u w NoObject h = absurd (keeps t.object e (fact_in u) (sym h) w.fact)
      back u w (HasObject o x) h =
          let p = moved-with u o x w h in
          let from : S o ≡ Some b = p.1 ∙ e in
          (o, in-contains followed o (some-from followed followed o (source depth m o) b from).0, (from, p.2))

  -- THE TUPLES OF NO OBJECT: the same, and one for each followed object that has its state from none that is followed
  pub of-none : (out : List Tuple) → t.object ≡ None → IsExactly out (SomeGives (λ o u. (source_in depth m followed o ≡ None) × (with_object t o ≡ u)) followed)
      → IsExactly (out ++ without_object t ∷ []) (IsMoved depth m followed t)
  of-none out e x = exactly-push (SomeGives (λ o u. (S o ≡ None) × (with_object t o ≡ u)) followed) (IsMoved depth m followed t) out (without_object t) x
      (record { global = refl; fact = stays t.object e })
      (λ u s. subst (IsMoved depth m followed t) s.2.1 (with-moved s.0 (asked t.object s.0 (contains-in followed s.0 s.1)) (s.2.0 ∙ sym e)))
      (λ u w. back u w (fact_in u) refl)
    where
      stays : (q : Option Object) → q ≡ None → MoveFlow depth m followed (fact_of q t.state) NoObject
      stays None h = MovesNone
      stays (Some b) h = absurd (none≢some b (sym h))

      asked : (q : Option Object) (o : Object) → is_in followed o ≡ true → IfNoObject (fact_of q t.state) (IsTrue (is_in followed o))
      asked None o h = h
      asked (Some b) o h = tt

      follows : (q : Option Object) (o : Object) → q ≡ None → IfNoObject (fact_of q t.state) (IsTrue (is_in followed o)) → is_in followed o ≡ true
      follows None o h i = i
      follows (Some b) o h i = absurd (none≢some b (sym h))

      back : (u : Tuple) → IsMoved depth m followed t u → (v : FactOf Object State) → v ≡ fact_in u
          → SomeGives (λ o u. (S o ≡ None) × (with_object t o ≡ u)) followed u ⊎ (without_object t ≡ u)
      back u w NoObject h = inr (same-tuple (without_object t) u (sym w.global) h)
      back u w (HasObject o x) h =
          let p = moved-with u o x w h in
          inl (o, in-contains followed o (follows t.object o e p.0), (p.1 ∙ e, p.2))
