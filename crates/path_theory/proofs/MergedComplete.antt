-- A set of entries from which nothing else follows has each path edge at the head of a block, in a frame of either
-- kind, and shows its reports.
-- The end of a called frame is the one event in which the kinds differ; a return takes what stood before it.
use Rattle.std.proofs.Common.{◌≡◌, Bool, true, false, Option, Some, None, List, [], ◌∷◌, refl, sym, ◌∙◌, ap, subst, inl, inr}
use Rattle.path_theory.specs.Model.{Model}
use Rattle.path_theory.specs.Origins.{Origins}
use Rattle.path_theory.specs.Facts.{NoObject, HasObject, Gives, GivesNone, GivesState, Objects, Fact}
use Rattle.path_theory.specs.Flows.{Starts, StartsNone, StartsUnknown, EventFlow, EventNone, EventObject, CallFlow, ReturnFlow, ReturnNone, ReturnObject}
use Rattle.path_theory.specs.Tabulation.{PathEdge, AtRoot, AlongSkip, AlongEvent, IntoCallee, OverCall, AroundCall, Found, FoundObject, FoundGlobal}
use Rattle.path_theory.specs.FlowGraphs.{FlowGraphs, Point, Head, Before, PointSkips, EntersBlock, LeavesBlock, PointGoes, PassesEvent, PointCalls, MakesCall, PointEnds, EndsFrame, supergraph}
use Rattle.path_theory.specs.BlockEdges.{Crosses, CrossesNone, CrossesOne, Shows, ShowsObject, ShowsGlobal, ShowsLater}
use Rattle.path_theory.specs.FrameEnds.{Exits, EachStays, ExitsApart}
use Rattle.path_theory.specs.Merged.{IsUnknown, Kinds, IsSaturatedMerged, Shown}
use Rattle.path_theory.proofs.SmallFacts.{some_is}

true_false : true ≡ false → ⊥
true_false d = cc

-- what holds in a called frame, or in the frame that it is, in a root's own
exit_kind : (k l : Bool) (P : Bool → Type 0) → (k ≡ true → l ≡ true) → (P false → P true) → P k → P l
exit_kind true true P h i p = p
exit_kind true false P h i p = absurd (true_false (sym (h refl)))
exit_kind false true P h i p = i p
exit_kind false false P h i p = p

nil_cons : {A : Type 0} {a : A} {l : List A} → [] ≡ a ∷ l → ⊥
nil_cons d = cc

head_is : {A : Type 0} {a b : A} {l m : List A} → a ∷ l ≡ b ∷ m → a ≡ b
head_is d = cc

two_one : {A : Type 0} {a b c : A} {l : List A} → a ∷ b ∷ l ≡ c ∷ [] → ⊥
two_one d = cc

module _ (M : Model) (L : Origins M) (A : Objects M) (G : FlowGraphs M) (C : Kinds M G) (E : Exits M)
    (N : ExitsApart M L E G) where
  abbrev D : M.Fn → Bool → M.Global → Fact M → Point G.Block M.Event → M.Global → Fact M → Type 0
  D = PathEdge M (supergraph M G) L A

  starts_unknown : {f : M.Fn} {t : Fact M} → Starts M L A f t → IsUnknown M t
  starts_unknown StartsNone = tt
  starts_unknown (StartsUnknown o a) = tt

  -- the root's own frame begins as a root does
  pub of_kind : {f : M.Fn} {k : Bool} {g₀ g : M.Global} {t₀ t : Fact M} {p : Point G.Block M.Event}
      → D f k g₀ t₀ p g t → k ≡ true → C.kind f g₀ t₀ ≡ true
  of_kind (AtRoot r a) q = C.of_root _ r (starts_unknown a)
  of_kind (AlongSkip d t) q = of_kind d q
  of_kind (AlongEvent d e t a) q = of_kind d q
  of_kind (IntoCallee d s t a) q = cc
  of_kind (OverCall d s t a c e b) q = of_kind d q
  of_kind (AroundCall d s t c e z) q = of_kind d q

  -- an event that ends no frame, in a frame of the other kind
  moves_kind : {f : M.Fn} (k l : Bool) {e : M.Event} {g : M.Global} {t u : Fact M} → E.Stays e
      → EventFlow M L A f k e g t u → EventFlow M L A f l e g t u
  moves_kind k l a EventNone = EventNone
  moves_kind {f = f} k l {e = e} {g = g} {t = t} a (EventObject o x i v) = subst (λ y. EventFlow M L A f l e g t (HasObject o y)) (E.same.choice e a f l k g o x) (EventObject o x i v)

  -- the end of a called frame, and what is handed back
  same_gives : {z : Option M.Obj} {t : Fact M} {x : Option M.State} {c : M.Obj} → Gives z t x → z ≡ Some c
      → t ≡ HasObject c x
  same_gives GivesNone d = cc
  same_gives {x = x} (GivesState {o = o}) d = ap (λ a. HasObject a x) (some_is o _ d)

  hands_before : {f h : M.Fn} {e : M.Event} {g : M.Global} {t u v : Fact M} {s : M.Site} {b c : G.Block}
      → G.Call f b s h c → E.IsExit e → EventFlow M L A h false e g t u → ReturnFlow M L A s f u v
      → ReturnFlow M L A s f t v
  hands_before j i EventNone ReturnNone = ReturnNone
  hands_before {f = f} {h = h} {e = e} {g = g} {t = t} {s = s} j i (EventObject c x a v) (ReturnObject o _ y l d) =
      subst (λ y. ReturnFlow M L A s f t (HasObject o y)) (sym (N.kept j e i g o c d x)) (subst (λ y. ReturnFlow M L A s f y (HasObject o x)) (sym (same_gives v (N.unmoved j e i o c d))) (ReturnObject o c x l d))

  bare_before : {h : M.Fn} {e : M.Event} {g : M.Global} {t u : Fact M} → EventFlow M L A h false e g t u
      → u ≡ NoObject → t ≡ NoObject
  bare_before EventNone d = refl
  bare_before (EventObject o x a v) d = cc

  module _ (X : M.Fn → M.Global → Fact M → G.Block → M.Global → Fact M → Type 0) (S : IsSaturatedMerged M L A G C X) where
    -- how far a block has been gone through
    pub data Progress (f : M.Fn) (k : Bool) (b : G.Block) (global : M.Global) (fact : Fact M) (es : List M.Event)
        (g : M.Global) (t : Fact M) : Type 0 where
      AtStart : es ≡ G.events f b → global ≡ g → fact ≡ t → Progress f k b global fact es g t
      OneDone : (e : M.Event) → e ∷ es ≡ G.events f b → EventFlow M L A f k e global fact t
          → M.next_global e f k global ≡ g → Progress f k b global fact es g t
      MoreDone : (e d : M.Event) (ds : List M.Event) → e ∷ d ∷ ds ≡ G.events f b → Progress f k b global fact es g t

    pub record Inside (f : M.Fn) (k : Bool) (g₀ : M.Global) (t₀ : Fact M) (b : G.Block) (es : List M.Event)
        (g : M.Global) (t : Fact M) : Type 0 where
      pub global : M.Global
      pub fact : Fact M
      pub entry : X f g₀ t₀ b global fact
      pub crosses : EachStays E (G.events f b)
          → EachStays E es × ((i : M.Global) (u : Fact M) → Crosses M L A f (C.kind f g₀ t₀) es g t i u → Crosses M L A f (C.kind f g₀ t₀) (G.events f b) global fact i u)
      pub shows : EachStays E (G.events f b) → (r : M.Report) → Shows M L A f (C.kind f g₀ t₀) r es g t
          → Shows M L A f (C.kind f g₀ t₀) r (G.events f b) global fact
      pub progress : Progress f k b global fact es g t

    pub data Stands (f : M.Fn) (k : Bool) (g₀ : M.Global) (t₀ : Fact M) : Point G.Block M.Event → M.Global → Fact M
        → Type 0 where
      AtHead : {b : G.Block} {g : M.Global} {t : Fact M} → X f g₀ t₀ b g t → Stands f k g₀ t₀ (Head b) g t
      Within : {b : G.Block} {es : List M.Event} {g : M.Global} {t : Fact M} → Inside f k g₀ t₀ b es g t
          → Stands f k g₀ t₀ (Before b es) g t

    stands_skip : {f : M.Fn} {k : Bool} {g₀ g : M.Global} {t₀ t : Fact M} {p q : Point G.Block M.Event}
        → PointSkips M G f p q → Stands f k g₀ t₀ p g t → Stands f k g₀ t₀ q g t
    stands_skip (EntersBlock b) (AtHead x) = Within (record { global = _; fact = _; entry = x; crosses = λ a. (a, λ i u c. c); shows = λ a r c. c; progress = AtStart refl refl refl })
    stands_skip (LeavesBlock n) (Within x) = AtHead (S.next x.entry ((x.crosses (N.next n)).1 _ _ CrossesNone) n)

    go_on : {f : M.Fn} {k : Bool} {b : G.Block} {e : M.Event} {es : List M.Event} {global g : M.Global} {fact t u : Fact M}
        → Progress f k b global fact (e ∷ es) g t → EventFlow M L A f k e g t u
        → Progress f k b global fact es (M.next_global e f k g) u
    go_on {f = f} {k = k} {e = e} {g = g} {fact = fact} {u = u} (AtStart d q r) a = OneDone e d (subst (λ y. EventFlow M L A f k e y fact u) (sym q) (subst (λ y. EventFlow M L A f k e g y u) (sym r) a)) (ap (M.next_global e f k) q)
    go_on (OneDone d i m q) a = MoreDone d _ _ i
    go_on (MoreDone d c ds i) a = MoreDone d c ds i

    stands_go : {f : M.Fn} (k : Bool) {g₀ g : M.Global} {t₀ t u : Fact M} {e : M.Event} {p q : Point G.Block M.Event}
        → PointGoes M G f p e q → EventFlow M L A f k e g t u → Stands f k g₀ t₀ p g t
        → Stands f k g₀ t₀ q (M.next_global e f k g) u
    stands_go {f = f} k {g₀ = g₀} {g = g} {t₀ = t₀} {t = t} {u = u} (PassesEvent b e es) a (Within x) = Within (record {
      global = x.global;
      fact = x.fact;
      entry = x.entry;
      crosses = λ n. let w = x.crosses n in (w.0.1, λ i v c. w.1 i v (CrossesOne (moves_kind k (C.kind f g₀ t₀) w.0.0 a) (subst (λ y. Crosses M L A f (C.kind f g₀ t₀) es y u i v) (E.same.global e w.0.0 f k (C.kind f g₀ t₀) g) c)));
      shows = λ n r c. let w = x.crosses n in x.shows n r (ShowsLater (moves_kind k (C.kind f g₀ t₀) w.0.0 a) (subst (λ y. Shows M L A f (C.kind f g₀ t₀) r es y u) (E.same.global e w.0.0 f k (C.kind f g₀ t₀) g) c));
      progress = go_on x.progress a;
    })

    stands_call : {f h : M.Fn} {k : Bool} {g₀ g : M.Global} {t₀ t u : Fact M} {s : M.Site} {p q : Point G.Block M.Event}
        → PointCalls M G f p s h q → CallFlow M L A s h t u → Stands f k g₀ t₀ p g t
        → Stands h false g u (Head (G.first h)) g u
    stands_call {s = s} (MakesCall j) a (Within x) = AtHead (S.call x.entry ((x.crosses (N.call j)).1 _ _ CrossesNone) s j a)

    -- the head of the block that ended the frame
    record Ended (h : M.Fn) (g₀ : M.Global) (t₀ : Fact M) (d : G.Block) (g : M.Global) (t : Fact M) : Type 0 where
      global : M.Global
      fact : Fact M
      entry : X h g₀ t₀ d global fact
      same : global ≡ g
      event : M.Event
      exit : E.IsExit event
      moves : EventFlow M L A h false event global fact t

    ended_at : {h : M.Fn} {g₀ g : M.Global} {t₀ t : Fact M} {d : G.Block} (x : Inside h false g₀ t₀ d [] g t)
        → Progress h false d x.global x.fact [] g t → (e : M.Event) → E.IsExit e → G.events h d ≡ e ∷ []
        → Ended h g₀ t₀ d g t
    ended_at x (AtStart i q r) e n l = absurd (nil_cons (i ∙ l))
    ended_at {h = h} x (OneDone d i m q) e n l = record {
      global = x.global;
      fact = x.fact;
      entry = x.entry;
      same = sym (E.quiet.global d (subst E.IsExit (sym (head_is (i ∙ l))) n) h x.global) ∙ q;
      event = d;
      exit = subst E.IsExit (sym (head_is (i ∙ l))) n;
      moves = m;
    }
    ended_at x (MoreDone d c ds i) e n l = absurd (two_one (i ∙ l))

    stands_return : {f h : M.Fn} {k : Bool} {g₀ g i : M.Global} {t₀ t u v w : Fact M} {s : M.Site}
        {p q r : Point G.Block M.Event}
        → PointCalls M G f p s h q → PointEnds M G h r → CallFlow M L A s h t u → ReturnFlow M L A s f v w
        → Stands f k g₀ t₀ p g t → Stands h false g u r i v → Stands f k g₀ t₀ q i w
    stands_return {f = f} {g₀ = g₀} {t₀ = t₀} {w = w} {s = s} (MakesCall {c = c} j) (EndsFrame l) a b (Within x) (Within y) =
        let n = N.last l in
        let z = ended_at y y.progress n.0 n.1 n.2 in
        AtHead (subst (λ i. X f g₀ t₀ c i w) z.same (S.return x.entry ((x.crosses (N.call j)).1 _ _ CrossesNone) s j a z.entry l (hands_before j z.exit z.moves b)))

    stands_saved : {f h : M.Fn} {k : Bool} {g₀ g i : M.Global} {t₀ : Fact M} {o : M.Obj} {x : Option M.State}
        {s : M.Site} {p q r : Point G.Block M.Event}
        → PointCalls M G f p s h q → PointEnds M G h r → L.out s o ≡ None → Stands f k g₀ t₀ p g (HasObject o x)
        → Stands h false g NoObject r i NoObject → Stands f k g₀ t₀ q i (HasObject o x)
    stands_saved {f = f} {h = h} {g₀ = g₀} {g = g} {t₀ = t₀} {o = o} {x = state} {s = s} (MakesCall {c = c} j) (EndsFrame {b = e} l) d (Within x) (Within y) =
        let n = N.last l in
        let z = ended_at y y.progress n.0 n.1 n.2 in
        AtHead (subst (λ i. X f g₀ t₀ c i (HasObject o state)) z.same (S.saved x.entry ((x.crosses (N.call j)).1 _ _ CrossesNone) s j (subst (λ i. X h g NoObject e z.global i) (bare_before z.moves refl) z.entry) l d))

    pub stands : {f : M.Fn} {k : Bool} {g₀ g : M.Global} {t₀ t : Fact M} {p : Point G.Block M.Event}
        → D f k g₀ t₀ p g t → Stands f k g₀ t₀ p g t
    stands (AtRoot r a) = AtHead (S.root r a)
    stands (AlongSkip d t) = stands_skip t (stands d)
    stands (AlongEvent {k = k} d e t a) = stands_go k t a (stands d)
    stands (IntoCallee d s t a) = stands_call t a (stands d)
    stands (OverCall d s t a c e b) = stands_return t e a b (stands d) (stands c)
    stands (AroundCall d s t c e z) = stands_saved t e z (stands d) (stands c)

    at_head : {f : M.Fn} {k : Bool} {g₀ g : M.Global} {t₀ t : Fact M} {b : G.Block} → Stands f k g₀ t₀ (Head b) g t
        → X f g₀ t₀ b g t
    at_head (AtHead x) = x

    -- each path edge at the head of a block, in a frame of either kind, is an entry
    pub merged_least : {f : M.Fn} {k : Bool} {g₀ g : M.Global} {t₀ t : Fact M} {b : G.Block}
        → D f k g₀ t₀ (Head b) g t → X f g₀ t₀ b g t
    merged_least d = at_head (stands d)

    -- its reports are given too
    last_shows : {f : M.Fn} {k : Bool} {b : G.Block} {e : M.Event} {es : List M.Event} {global g : M.Global}
        {fact t : Fact M} (r : M.Report)
        → Progress f k b global fact (e ∷ es) g t → (l : Bool) (d : M.Event) → E.IsExit d → G.events f b ≡ d ∷ []
        → (E.IsExit e → (es : List M.Event) → Shows M L A f l r (e ∷ es) g t)
        → Shows M L A f l r (G.events f b) global fact
    last_shows {f = f} {b = b} {e = e} {es = es} {global = global} {g = g} {fact = fact} {t = t} r (AtStart i q c) l d n j h =
        subst (λ y. Shows M L A f l r y global fact) i
        (subst (λ y. Shows M L A f l r (e ∷ es) global y) (sym c)
        (subst (λ y. Shows M L A f l r (e ∷ es) y t) (sym q) (h (subst E.IsExit (sym (head_is (i ∙ j))) n) es)))
    last_shows r (OneDone c i m q) l d n j h = absurd (two_one (i ∙ j))
    last_shows r (MoreDone c e ds i) l d n j h = absurd (two_one (i ∙ j))

    shown_at : {f : M.Fn} {k : Bool} {g₀ g : M.Global} {t₀ t : Fact M} {p q : Point G.Block M.Event} {e : M.Event}
        (r : M.Report)
        → PointGoes M G f p e q → Stands f k g₀ t₀ p g t
        → (E.Stays e → (es : List M.Event) → Shows M L A f (C.kind f g₀ t₀) r (e ∷ es) g t)
        → (E.IsExit e → (es : List M.Event) → Shows M L A f (C.kind f g₀ t₀) r (e ∷ es) g t) → Shown M L A G C X r
    shown_at {f = f} {k = k} {g₀ = g₀} {g = g} {t₀ = t₀} {t = t} r (PassesEvent b e es) (Within x) h i =
        elim (N.either f b) [
          | inl n ↦ record { fn = f; global₀ = g₀; fact₀ = t₀; block = b; global = x.global; fact = x.fact; entry = x.entry; shows = x.shows n r (h (x.crosses n).0.0 es) }
          | inr l ↦ record { fn = f; global₀ = g₀; fact₀ = t₀; block = b; global = x.global; fact = x.fact; entry = x.entry; shows = last_shows r x.progress (C.kind f g₀ t₀) (N.last l).0 (N.last l).1 (N.last l).2 i }
        ]

    pub merged_shown : (r : M.Report) → Found M (supergraph M G) L A r → Shown M L A G C X r
    merged_shown r (FoundObject {f = f} {k = k} {g₀ = g₀} {g = g} {t₀ = t₀} d e t o x a v i) =
        shown_at r t (stands d)
        (λ n es. ShowsObject o x a v (E.same.fires e n f k (C.kind f g₀ t₀) g o x r i))
        (λ n es. ShowsObject o x a v (exit_kind k (C.kind f g₀ t₀) (λ y. M.Fires e f y g o x r) (of_kind d) (E.quiet.fires e n f g o x r) i))
    merged_shown r (FoundGlobal {f = f} {k = k} {g₀ = g₀} {g = g} {t₀ = t₀} d e t i) =
        shown_at r t (stands d)
        (λ n es. ShowsGlobal (E.same.fires_global e n f k (C.kind f g₀ t₀) g r i))
        (λ n es. ShowsGlobal (exit_kind k (C.kind f g₀ t₀) (λ y. M.FiresGlobal e f y g r) (of_kind d) (E.quiet.fires_global e n f g r) i))
