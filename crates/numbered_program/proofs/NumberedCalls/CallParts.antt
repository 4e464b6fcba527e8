-- A CALL'S TABLES STAND FOR A SITE of any model, part by part: by the rows with which the callee is entered, by those that hand back, and by what
-- is saved.
use Rattle.std.proofs.Common.{◌≡◌, ◌∙◌, refl, sym, ap, subst, ℕ, Bool, true, List, Contains, Option, None, Some}
use Rattle.std.specs.Prelude.{◌↔◌}
use Rattle.numbered_program.proofs.NumberedCalls.PassedTuples.{PassesTo, StaysBare, TakesState, bare_passes, passes_so, row_passes}
use Rattle.numbered_engine.specs.Following.{passed}
use Rattle.numbered_engine.specs.declared.program.Call.{Call}
use Rattle.numbered_paths.proofs.TupleFacts.{bare_fact, bare_if, gives, if_bare, object_fact, one_number, origin, state_of}
use Rattle.numbered_paths.specs.Calls.{IsCall}
use Rattle.numbered_paths.specs.RowParts.{IsNumberOf}
use Rattle.numbered_paths.specs.Views.{AreNumbers, IsBare, IsNumbered, IsOf, Views, fact_at}
use Rattle.path_theory.proofs.SmallFacts.{some_some}
use Rattle.path_theory.specs.Facts.{Fact, Gives, GivesState, HasObject, NoObject, Objects}
use Rattle.path_theory.specs.FlowGraphs.{FlowGraphs}
use Rattle.path_theory.specs.Flows.{CallFlow, CallNone, CallObject, ReturnFlow, ReturnNone, ReturnObject}
use Rattle.path_theory.specs.Model.{Model}
use Rattle.path_theory.specs.Origins.{Origins}
use Rattle.row_flows.specs.Behind.{with_object}
use Rattle.row_flows.specs.Numbers.{is_own}
use Rattle.row_flows.specs.declared.rows.Touched.{Touched}
use Rattle.row_flows.specs.declared.tuples.NumberedTuple.{NumberedTuple}

module _ (M : Model) (L : Origins M) (A : Objects M) (G : FlowGraphs M) (V : Views M G) (n m : ℕ) (s : M.Site) where
  -- THE ENTRY: each object of the callee has a row, with the object of the caller whose state it begins with
  pub record AreEntered (rows : List Touched) : Type 0 where
    pub sources : (x : Touched) → Contains rows x → (o : M.Obj) × (V.object m x.object ≡ Some o) × IsNumberOf M L A G V n x.source (L.into s o)
    pub each : (i : ℕ) (o : M.Obj) → V.object m i ≡ Some o → (x : Touched) × Contains rows x × (x.object ≡ i)

  -- a row of an object of the caller that has its state from one of the callee
  pub record IsHanded (x : Touched) : Type 0 where
    pub object : M.Obj
    pub source : M.Obj
    pub named : V.object n x.object ≡ Some object
    pub source_named : V.object m x.source ≡ Some source
    pub out : L.out s object ≡ Some source

  -- THE RETURN: each object of the caller that isn't saved has a row
  pub record AreHanded (rows : List Touched) : Type 0 where
    pub sources : (x : Touched) → Contains rows x → IsHanded x
    pub each : (i : ℕ) (o c : M.Obj) → V.object n i ≡ Some o → L.out s o ≡ Some c → (x : Touched) × Contains rows x × (x.object ≡ i)

  -- WHAT IS SAVED
  abbrev pub AreSaved : List Bool → Type 0
  AreSaved flags = (i : ℕ) (o : M.Obj) → V.object n i ≡ Some o → (is_own flags i ≡ true) ↔ (L.out s o ≡ None)

module _ (M : Model) (L : Origins M) (A : Objects M) (G : FlowGraphs M) (V : Views M G) (N : AreNumbers M A G V) (n m : ℕ) (f h : M.Fn) (here : V.function n ≡ Some f) (there : V.function m ≡ Some h)
    (s : M.Site) where
  -- ---- into the callee

  module _ (rows : List Touched) (e : AreEntered M L A G V n m s rows) where
    abbrev Enters : NumberedTuple → NumberedTuple → Type 0
    Enters t v = IsNumbered M A G V m v × (v.global ≡ t.global) × CallFlow M L A s h (fact_at M A G V n t) (fact_at M A G V m v)

    enters_bare : (t : NumberedTuple) → IsNumbered M A G V n t → t.object ≡ 0 → Enters t t
    enters_bare t i z =
        let to = subst (λ (y : Fact M). CallFlow M L A s h NoObject y) (sym (bare_fact M L A G V N m t z)) CallNone in
        (IsBare z (bare_if M L A G V N n t i z), refl, subst (λ (y : Fact M). CallFlow M L A s h y (fact_at M A G V m t)) (sym (bare_fact M L A G V N n t z)) to)

    enters_by : (t : NumberedTuple) (x : Touched) → IsNumbered M A G V n t → Contains rows x → x.source ≡ t.object → Enters t (with_object t x.object)
    enters_by t x i c k =
        let o = e.sources x c in
        let begins = gives M L A G V N n t (L.into s o.0) i (subst (λ j. IsNumberOf M L A G V n j (L.into s o.0)) k o.2) in
        let flow : CallFlow M L A s h (fact_at M A G V n t) (HasObject o.0 (V.state t.state)) = CallObject o.0 (V.state t.state) (N.followed m h x.object o.0 there o.1) begins in (
          IsOf o.0 o.1 (state_of M L A G V N n t i),
          refl,
          subst (λ (y : Fact M). CallFlow M L A s h (fact_at M A G V n t) y) (sym (object_fact M L A G V N m (with_object t x.object) o.0 o.1)) flow,
        )

    pub enters_so : (t v : NumberedTuple) → IsNumbered M A G V n t → Contains (passed rows t) v
        → IsNumbered M A G V m v × (v.global ≡ t.global) × CallFlow M L A s h (fact_at M A G V n t) (fact_at M A G V m v)
    enters_so t v i c = by v (passes_so rows t v c)
      where
        by : (v : NumberedTuple) → PassesTo rows t v → Enters t v
        by v (StaysBare z d) = subst (Enters t) d (enters_bare t i z)
        by v (TakesState x c k d) = subst (Enters t) d (enters_by t x i c k)

    -- a tuple that passes, of this fact in the callee
    abbrev Entered : NumberedTuple → Fact M → Type 0
    Entered t y = (v : NumberedTuple) × Contains (passed rows t) v × (fact_at M A G V m v ≡ y)

    entered_bare : (t : NumberedTuple) → IsNumbered M A G V n t → NoObject ≡ fact_at M A G V n t → Entered t NoObject
    entered_bare t i d = let z = if_bare M L A G V N n t i (sym d) in (t, bare_passes rows t z, bare_fact M L A G V N m t z)

    entered_with : (t : NumberedTuple) (o : M.Obj) (x : Option M.State) → IsNumbered M A G V n t → A h o → Gives (L.into s o) (fact_at M A G V n t) x → Entered t (HasObject o x)
    entered_with t o x i a g =
        let w = origin M L A G V N n t i g in
        let p = N.numbered m h o there a in
        let r = e.each p.0 o p.1 in
        let named : V.object m r.0.object ≡ Some o = subst (λ j. V.object m j ≡ Some o) (sym r.2) p.1 in
        let q = e.sources r.0 r.1 in
        let same : q.0 ≡ o = some_some (V.object m r.0.object) o q.0 named q.1 in
        let source : IsNumberOf M L A G V n r.0.source (L.into s o) = subst (λ b. IsNumberOf M L A G V n r.0.source (L.into s b)) same q.2 in (
          with_object t r.0.object,
          row_passes rows t r.0 r.1 (one_number M L A G V N n (L.into s o) r.0.source t.object source w.0),
          object_fact M L A G V N m (with_object t r.0.object) o named ∙ ap (HasObject o) w.1,
        )

    pub entered_so : (t : NumberedTuple) (y : Fact M) → IsNumbered M A G V n t → CallFlow M L A s h (fact_at M A G V n t) y → (v : NumberedTuple) × Contains (passed rows t) v × (fact_at M A G V m v ≡ y)
    entered_so t y i w = by (fact_at M A G V n t) y refl w
      where
        by : (u y : Fact M) → u ≡ fact_at M A G V n t → CallFlow M L A s h u y → Entered t y
        by _ _ d CallNone = entered_bare t i d
        by u _ d (CallObject o x a g) = entered_with t o x i a (subst (λ (z : Fact M). Gives (L.into s o) z x) d g)

  -- ---- and back

  module _ (rows : List Touched) (e : AreHanded M L A G V n m s rows) where
    abbrev Hands : NumberedTuple → NumberedTuple → Type 0
    Hands t v = IsNumbered M A G V n v × (v.global ≡ t.global) × ReturnFlow M L A s f (fact_at M A G V m t) (fact_at M A G V n v)

    hands_bare : (t : NumberedTuple) → IsNumbered M A G V m t → t.object ≡ 0 → Hands t t
    hands_bare t i z =
        let to = subst (λ (y : Fact M). ReturnFlow M L A s f NoObject y) (sym (bare_fact M L A G V N n t z)) ReturnNone in
        (IsBare z (bare_if M L A G V N m t i z), refl, subst (λ (y : Fact M). ReturnFlow M L A s f y (fact_at M A G V n t)) (sym (bare_fact M L A G V N m t z)) to)

    hands_by : (t : NumberedTuple) (x : Touched) → IsNumbered M A G V m t → Contains rows x → x.source ≡ t.object → Hands t (with_object t x.object)
    hands_by t x i c k =
        let o = e.sources x c in
        let v = with_object t x.object in
        let from : V.object m t.object ≡ Some o.source = subst (λ j. V.object m j ≡ Some o.source) k o.source_named in
        let flow : ReturnFlow M L A s f (HasObject o.source (V.state t.state)) (HasObject o.object (V.state t.state)) =
        ReturnObject o.object o.source (V.state t.state) (N.followed n f x.object o.object here o.named) o.out in
        let to = subst (λ (y : Fact M). ReturnFlow M L A s f (HasObject o.source (V.state t.state)) y) (sym (object_fact M L A G V N n v o.object o.named)) flow in (
          IsOf o.object o.named (state_of M L A G V N m t i),
          refl,
          subst (λ (y : Fact M). ReturnFlow M L A s f y (fact_at M A G V n v)) (sym (object_fact M L A G V N m t o.source from)) to,
        )

    pub hands_so : (t v : NumberedTuple) → IsNumbered M A G V m t → Contains (passed rows t) v
        → IsNumbered M A G V n v × (v.global ≡ t.global) × ReturnFlow M L A s f (fact_at M A G V m t) (fact_at M A G V n v)
    hands_so t v i c = by v (passes_so rows t v c)
      where
        by : (v : NumberedTuple) → PassesTo rows t v → Hands t v
        by v (StaysBare z d) = subst (Hands t) d (hands_bare t i z)
        by v (TakesState x c k d) = subst (Hands t) d (hands_by t x i c k)

    -- a tuple that passes, of this fact in the caller
    abbrev Handed : NumberedTuple → Fact M → Type 0
    Handed t y = (v : NumberedTuple) × Contains (passed rows t) v × (fact_at M A G V n v ≡ y)

    handed_bare : (t : NumberedTuple) → IsNumbered M A G V m t → NoObject ≡ fact_at M A G V m t → Handed t NoObject
    handed_bare t i d = let z = if_bare M L A G V N m t i (sym d) in (t, bare_passes rows t z, bare_fact M L A G V N n t z)

    handed_with : (t : NumberedTuple) (o c : M.Obj) (x : Option M.State) → IsNumbered M A G V m t → HasObject c x ≡ fact_at M A G V m t → A f o → L.out s o ≡ Some c → Handed t (HasObject o x)
    handed_with t o c x i d a back =
        let g : Gives (Some c) (fact_at M A G V m t) x = subst (λ (y : Fact M). Gives (Some c) y x) d GivesState in
        let w = origin M L A G V N m t i g in
        let p = N.numbered n f o here a in
        let r = e.each p.0 o c p.1 back in
        let named : V.object n r.0.object ≡ Some o = subst (λ j. V.object n j ≡ Some o) (sym r.2) p.1 in
        let q = e.sources r.0 r.1 in
        let same : q.object ≡ o = some_some (V.object n r.0.object) o q.object named q.named in
        let from : q.source ≡ c = some_some (L.out s o) c q.source back (subst (λ b. L.out s b ≡ Some q.source) same q.out) in
        let number : V.object m r.0.source ≡ Some c = subst (λ b. V.object m r.0.source ≡ Some b) from q.source_named in (
          with_object t r.0.object,
          row_passes rows t r.0 r.1 (N.objects m r.0.source t.object c number w.0),
          object_fact M L A G V N n (with_object t r.0.object) o named ∙ ap (HasObject o) w.1,
        )

    pub handed_so : (t : NumberedTuple) (y : Fact M) → IsNumbered M A G V m t → ReturnFlow M L A s f (fact_at M A G V m t) y → (v : NumberedTuple) × Contains (passed rows t) v × (fact_at M A G V n v ≡ y)
    handed_so t y i w = by (fact_at M A G V m t) y refl w
      where
        by : (u y : Fact M) → u ≡ fact_at M A G V m t → ReturnFlow M L A s f u y → Handed t y
        by _ _ d ReturnNone = handed_bare t i d
        by _ _ d (ReturnObject o c x a back) = handed_with t o c x i d a back

  -- ---- ALL OF IT

  pub call_stands : (call : Call) → AreEntered M L A G V n m s call.entered.items → AreHanded M L A G V n m s call.handed.items → AreSaved M L A G V n m s call.saved.items
      → IsCall M L A G V n m f h s call
  call_stands call e b k = record {
    enters = enters_so call.entered.items e;
    entered = entered_so call.entered.items e;
    hands = hands_so call.handed.items b;
    handed = handed_so call.handed.items b;
    saves = k;
  }
