-- The flow graphs that an engine takes have the traces of the bodies by graphs, and an exit stands alone in its block.
use Rattle.std.proofs.Common.{◌≡◌, ◌↔◌, ℕ, true, false, List, [], ◌∷◌, length, map, ◌⊎◌, inl, inr, Option, Some, None, slice_get, refl, sym, ap, ◌∙◌, subst}
use Rattle.c_tree.specs.Node.{Node}
use Rattle.path_theory.specs.Model.{Model}
use Rattle.path_theory.specs.Origins.{Origins}
use Rattle.path_theory.specs.Trails.{More}
use Rattle.path_theory.specs.Supergraph.{Supergraph}
use Rattle.path_theory.specs.Walks.{AtEvent, AtCall, Labels, Walk, WalkStart, WalkSkip, WalkGo, WalkCall, HasTraces}
use Rattle.path_theory.specs.FlowGraphs.{FlowGraphs, Point, PointSkips, EntersBlock, LeavesBlock, PointGoes, PassesEvent, PointCalls, MakesCall, PointEnds, EndsFrame, supergraph}
use Rattle.path_theory.specs.FlowGraphs as points
use Rattle.path_theory.specs.FrameEnds.{Exits, EachStays, ExitsApart}
use Rattle.path_theory.specs.Marks.{EventMark, PassesSkip, PassesCall, under}
use Rattle.flow_graph.specs.CPaths.Events.{Event, Item}
use Rattle.flow_graph.specs.CPaths.Facts.{Facts}
use Rattle.flow_graph.specs.CPaths.Exits.{is_exit, NoExits}
use Rattle.flow_graph.specs.CPaths.Traces.{Definition, Trace}
use Rattle.flow_graph.specs.CPaths.Graphs.{Block, Ending, ToAny, Calls, Stops, GraphTrace}
use Rattle.flow_graph.specs.CPaths.SoundGraphs.{IsSoundEnd, IsSoundGraph}
use Rattle.flow_graph.specs.CPaths.Fragments.{Has}
use Rattle.flow_graph.specs.CPaths.Building.{Graph}
use Rattle.flow_graph.specs.CPaths.Bodies.{Spot, Head, Before, SpotEnds, step_bodies, graph_bodies}
use Rattle.flow_graph.specs.CPaths.BlockGraphs.{events_at, LeadsTo, block_graphs}
use Rattle.path_theory.proofs.Erasure.{traces_under}
use Rattle.flow_graph.proofs.CPaths.GraphBodies.{sound_at, graphs_have_walks}

same_first : {A : Type 0} {x y : A} {xs ys : List A} → x ∷ xs ≡ y ∷ ys → (x ≡ y) × (xs ≡ ys)
same_first e = (cc, cc)

ending_at : Option Block → Ending → Ending
ending_at None end = end
ending_at (Some s) end = s.ending

-- a block has one end
one_end : (g : List Block) (b : ℕ) (es fs : List Event) (x y : Ending) → Has g b es x → Has g b fs y → x ≡ y
one_end g b es fs x y h k = unfold ending_at in ap (λ o. ending_at o x) (sym h ∙ k)

in_turn : (M : Model) (J K L : Supergraph M) → HasTraces M J K → HasTraces M K L → HasTraces M J L
in_turn M J K L a b = record {
  roots = λ f r. b.roots f (a.roots f r);
  traces = λ f l t. b.traces f l (a.traces f l t);
  whole = λ f l t. b.whole f l (a.whole f l t);
}

module _ (M : Model) (facts : M.Fn → Facts) (definition : M.Fn → Definition) (event : M.Fn → Event → M.Event) (site : M.Fn → Node → M.Site) (graph : M.Fn → Graph) (IsRoot : M.Fn → Type 0) (followed : M.Fn → M.Site → Option M.Fn) where
  abbrev G : FlowGraphs M
  G = block_graphs M event site graph IsRoot followed

  abbrev by_bodies : Supergraph M
  by_bodies = under M IsRoot followed (graph_bodies M facts definition event site graph)

  abbrev by_blocks : Supergraph M
  by_blocks = supergraph M G

  abbrev IsPassed : M.Fn → Node → Type 0
  IsPassed f n = followed f (site f n) ≡ None

  -- the same place of both
  abbrev Same : M.Fn → Spot → Point ℕ M.Event → Type 0
  Same f (Head b) y = y ≡ points.Head b
  Same f (Before es end) y = (b : ℕ) × (fs : List Event) × Has (graph f).blocks b fs end × (y ≡ points.Before b (map (event f) es))

  abbrev Come : M.Fn → Labels M → Spot → Type 0
  Come f l p = (y : Point ℕ M.Event) × Walk M by_blocks f l y × Same f p y

  skip : (f : M.Fn) (l : Labels M) (p q : Spot) → by_bodies.Skips f p q → Come f l p → Come f l q
  skip f l (Head b) (Before es end) (PassesSkip s) (y, w, e) = (
    points.Before b (map (event f) es),
    subst (λ xs. Walk M by_blocks f l (points.Before b xs)) (ap (λ o. map (event f) (events_at o)) s) (WalkSkip (subst (Walk M by_blocks f l) e w) (EntersBlock b)),
    (b, es, s, refl),
  )
  skip f l (Before [] (ToAny bs)) (Head c) (PassesSkip s) (y, w, (b, fs, h, e)) =
      (points.Head c, WalkSkip (subst (Walk M by_blocks f l) e w) (LeavesBlock (fs, ToAny bs, h, s)), refl)
  skip f l (Before [] (Calls n d)) (Head c) (PassesCall s m q) (y, w, (b, fs, h, e)) =
      let passed : IsPassed f n = ap (λ k. followed f (site f k)) (sym m.1.1) ∙ ap (followed f) (sym m.2) ∙ q in
      (points.Head c, WalkSkip (subst (Walk M by_blocks f l) e w) (LeavesBlock (fs, Calls n d, h, (passed, m.1.0))), refl)
  skip f l _ _ (PassesSkip s) a = absurd s
  skip f l _ _ (PassesCall s m q) a = absurd m.1

  go : (f : M.Fn) (l : Labels M) (p : Spot) (e : M.Event) (q : Spot) → by_bodies.Goes f p e q → Come f l p → Come f (More l (AtEvent e)) q
  go f l (Before (j ∷ es) end) e (Before fs last) (i, s, d) (y, w, (b, hs, h, same)) = (
    points.Before b (map (event f) es),
    subst (λ x. Walk M by_blocks f (More l (AtEvent x)) (points.Before b (map (event f) es))) (sym (d ∙ ap (event f) s.2)) (WalkGo (subst (Walk M by_blocks f l) same w) (event f j) (PassesEvent b (event f j) (map (event f) es))),
    (b, hs, subst (Has (graph f).blocks b hs) (sym s.1) h, ap (λ z. points.Before b (map (event f) z)) (sym s.0)),
  )
  go f l _ e _ (i, s, d) a = absurd s

  call : (f : M.Fn) (l : Labels M) (p : Spot) (s : M.Site) (k : M.Fn) (q : Spot) → by_bodies.Calls f p s k q → Come f l p → Come f (More l (AtCall s k)) q
  call f l (Before [] (Calls n d)) s k (Head c) (m, q) (y, w, (b, fs, h, e)) =
      (points.Head c, WalkCall (subst (Walk M by_blocks f l) e w) s k (MakesCall (fs, n, subst (λ z. Has (graph f).blocks b fs (Calls n z)) (sym m.1.0) h, m.2 ∙ ap (site f) m.1.1, q)), refl)
  call f l _ s k _ (m, q) a = absurd m.1

  there : (f : M.Fn) (l : Labels M) (p : Spot) → Walk M by_bodies f l p → Come f l p
  there f _ _ WalkStart = (points.Head (graph f).entry, WalkStart, refl)
  there f l q (WalkSkip {p = p} w s) = skip f l p q s (there f l p w)
  there f _ q (WalkGo {l = l} {p = p} w e s) = go f l p e q s (there f l p w)
  there f _ q (WalkCall {l = l} {p = p} w s k c) = call f l p s k q c (there f l p w)

  ends : (f : M.Fn) (p : Spot) → SpotEnds p → (y : Point ℕ M.Event) → Same f p y → by_blocks.Ends f y
  ends f (Before [] Stops) t y (b, fs, h, e) = subst (PointEnds M G f) (sym e) (EndsFrame (fs, h))
  ends f _ t y a = absurd t

  -- a walk of the bodies to the same place
  abbrev Back : M.Fn → Labels M → Point ℕ M.Event → Type 0
  Back f l (points.Head b) = Walk M by_bodies f l (Head b)
  Back f l (points.Before b xs) =
      ((es fs : List Event) × (end : Ending) × Has (graph f).blocks b fs end × (xs ≡ map (event f) es) × Walk M by_bodies f l (Before es end))
      ⊎ ((slice_get (graph f).blocks b ≡ None) × (xs ≡ []) × Walk M by_bodies f l (Head b))

  enter : (f : M.Fn) (l : Labels M) (b : ℕ) → Walk M by_bodies f l (Head b) → (o : Option Block) → slice_get (graph f).blocks b ≡ o → Back f l (points.Before b (G.events f b))
  enter f l b w (Some s) e = inl (s.events, s.events, s.ending, e, ap (λ o. map (event f) (events_at o)) e, WalkSkip w (PassesSkip e))
  enter f l b w None e = inr (e, ap (λ o. map (event f) (events_at o)) e, w)

  -- within a block whose events are over, its end
  over : (f : M.Fn) (l : Labels M) (b : ℕ) (fs : List Event) (end : Ending) → Has (graph f).blocks b fs end → Back f l (points.Before b []) → Walk M by_bodies f l (Before [] end)
  over f l b fs end h (inl ([], hs, last, k, e, w)) = subst (λ z. Walk M by_bodies f l (Before [] z)) (one_end (graph f).blocks b hs fs last end k h) w
  over f l b fs end h (inl (i ∷ es, hs, last, k, e, w)) = cc
  over f l b fs end h (inr (k, e, w)) = let bad : ◌≡◌ {A = Option Block} None (Some (record { events = fs; ending = end })) = sym k ∙ h in cc

  leave : (f : M.Fn) (l : Labels M) (end : Ending) (c : ℕ) → LeadsTo (IsPassed f) end c → Walk M by_bodies f l (Before [] end) → Walk M by_bodies f l (Head c)
  leave f l (ToAny bs) c a w = WalkSkip w (PassesSkip a)
  leave f l (Calls n b) c a w = WalkSkip w (PassesCall (site f n) (n, (a.1, refl), refl) a.0)
  leave f l Stops c a w = absurd a

  skip_back : (f : M.Fn) (l : Labels M) (p q : Point ℕ M.Event) → PointSkips M G f p q → Back f l p → Back f l q
  skip_back f l _ _ (EntersBlock b) w = enter f l b w (slice_get (graph f).blocks b) refl
  skip_back f l _ _ (LeavesBlock {b = b} {c = c} n) a = leave f l n.1 c n.3 (over f l b n.0 n.1 n.2 a)

  go_back : (f : M.Fn) (l : Labels M) (p : Point ℕ M.Event) (e : M.Event) (q : Point ℕ M.Event) → PointGoes M G f p e q → Back f l p → Back f (More l (AtEvent e)) q
  go_back f l _ e _ (PassesEvent b _ es) (inl ([], hs, last, k, x, w)) = cc
  go_back f l _ e _ (PassesEvent b _ es) (inl (i ∷ js, hs, last, k, x, w)) = let parts = same_first x in inl (js, hs, last, k, parts.1, WalkGo w e (i, (refl, refl, refl), parts.0))
  go_back f l _ e _ (PassesEvent b _ es) (inr (k, x, w)) = cc

  call_back : (f : M.Fn) (l : Labels M) (p : Point ℕ M.Event) (s : M.Site) (k : M.Fn) (q : Point ℕ M.Event) → PointCalls M G f p s k q → Back f l p → Back f (More l (AtCall s k)) q
  call_back f l _ s k _ (MakesCall {b = b} {c = c} n) a = WalkCall (over f l b n.0 (Calls n.1 c) n.2 a) s k ((n.1, (refl, refl), n.3), n.4)

  back : (f : M.Fn) (l : Labels M) (q : Point ℕ M.Event) → Walk M by_blocks f l q → Back f l q
  back f _ _ WalkStart = WalkStart
  back f l q (WalkSkip {p = p} w s) = skip_back f l p q s (back f l p w)
  back f _ q (WalkGo {l = l} {p = p} w e s) = go_back f l p e q s (back f l p w)
  back f _ q (WalkCall {l = l} {p = p} w s k c) = call_back f l p s k q c (back f l p w)

  walk_back : (f : M.Fn) (l : Labels M) (q : Point ℕ M.Event) → Back f l q → (p : Spot) × Walk M by_bodies f l p
  walk_back f l (points.Head b) w = (Head b, w)
  walk_back f l (points.Before b xs) (inl a) = (Before a.0 a.2, a.5)
  walk_back f l (points.Before b xs) (inr a) = (Head b, a.2)

  whole_back : (f : M.Fn) (l : Labels M) (q : Point ℕ M.Event) → PointEnds M G f q → Back f l q → (p : Spot) × Walk M by_bodies f l p × SpotEnds p
  whole_back f l _ (EndsFrame {b = b} n) a = (Before [] Stops, over f l b n.0 Stops n.1 a, tt)

  -- both have the same roots and traces
  pub blocks_have_traces : HasTraces M by_bodies by_blocks × HasTraces M by_blocks by_bodies
  blocks_have_traces = (
    record {
      roots = λ f r. r;
      traces = λ f l t. let a = there f l t.0 t.1 in (a.0, a.1);
      whole = λ f l t. let a = there f l t.0 t.1 in (a.0, a.1, ends f t.0 t.2 a.0 a.2);
    },
    record {
      roots = λ f r. r;
      traces = λ f l t. walk_back f l t.0 (back f l t.0 t.1);
      whole = λ f l t. whole_back f l t.0 t.2 (back f l t.0 t.1);
    },
  )

  abbrev by_steps : Supergraph M
  by_steps = under M IsRoot followed (step_bodies M facts definition event site)

  -- so sound graphs with the traces of the functions have, in this form too, the traces of the bodies by steps
  pub blocks_have_steps : ((f : M.Fn) → IsSoundGraph (graph f).blocks (graph f).entry)
      → ((f : M.Fn) (l : List Item) → Trace (facts f) (definition f) l ↔ GraphTrace (graph f).blocks (graph f).entry l)
      → HasTraces M by_steps by_blocks × HasTraces M by_blocks by_steps
  blocks_have_steps sound same =
      let w = graphs_have_walks M facts definition event site graph sound same in
      let steps = step_bodies M facts definition event site in
      let graphs = graph_bodies M facts definition event site graph in (
        in_turn M by_steps by_bodies by_blocks (traces_under M IsRoot followed steps graphs w.0) blocks_have_traces.0,
        in_turn M by_blocks by_bodies by_steps blocks_have_traces.1 (traces_under M IsRoot followed graphs steps w.1),
      )

  -- sound graphs have their exits apart, where the checker takes the exits of functions for ends of frames and nothing else
  module _ (L : Origins M) (E : Exits M) (sound : (f : M.Fn) → IsSoundGraph (graph f).blocks (graph f).entry)
      (exits : (f : M.Fn) (e : Event) → is_exit (EventMark e) ≡ true → E.IsExit (event f e))
      (others : (f : M.Fn) (e : Event) → is_exit (EventMark e) ≡ false → E.Stays (event f e)) where
    all_stay : (f : M.Fn) (es : List Event) → NoExits es → EachStays E (map (event f) es)
    all_stay f [] h = tt
    all_stay f (e ∷ es) h = (others f e h.0, all_stay f es h.1)

    stay_at : (f : M.Fn) (b : ℕ) (es : List Event) (end : Ending) → Has (graph f).blocks b es end → NoExits es → EachStays E (G.events f b)
    stay_at f b es end h n = subst (λ o. EachStays E (map (event f) (events_at o))) (sym h) (all_stay f es n)

    sound_end : (f : M.Fn) (b : ℕ) (es : List Event) (end : Ending) → Has (graph f).blocks b es end → IsSoundEnd (length (graph f).blocks) es end
    sound_end f b es end h = sound_at (length (graph f).blocks) (graph f).blocks b (record { events = es; ending = end }) (sound f).0 h

    next_stays : (f : M.Fn) (b c : ℕ) (es : List Event) (end : Ending) → Has (graph f).blocks b es end → LeadsTo (IsPassed f) end c → EachStays E (G.events f b)
    next_stays f b c es (ToAny bs) h a = stay_at f b es (ToAny bs) h (sound_end f b es (ToAny bs) h).0
    next_stays f b c es (Calls n d) h a = stay_at f b es (Calls n d) h (sound_end f b es (Calls n d) h).0
    next_stays f b c es Stops h a = absurd a

    exit_alone : (f : M.Fn) (b : ℕ) (es : List Event) → Has (graph f).blocks b es Stops → (e : M.Event) × E.IsExit e × (G.events f b ≡ e ∷ [])
    exit_alone f b es h =
        let s = sound_end f b es Stops h in
        (event f s.0, exits f s.0 s.1, ap (λ o. map (event f) (events_at o)) h ∙ ap (map (event f)) s.2)

    either_end : (f : M.Fn) (b : ℕ) (es : List Event) (end : Ending) → Has (graph f).blocks b es end → EachStays E (G.events f b) ⊎ G.Ends f b
    either_end f b es (ToAny bs) h = inl (stay_at f b es (ToAny bs) h (sound_end f b es (ToAny bs) h).0)
    either_end f b es (Calls n d) h = inl (stay_at f b es (Calls n d) h (sound_end f b es (Calls n d) h).0)
    either_end f b es Stops h = inr (es, h)

    either_is : (f : M.Fn) (b : ℕ) (o : Option Block) → slice_get (graph f).blocks b ≡ o → EachStays E (G.events f b) ⊎ G.Ends f b
    either_is f b None h = inl (subst (λ o. EachStays E (map (event f) (events_at o))) (sym h) tt)
    either_is f b (Some s) h = either_end f b s.events s.ending h

    -- what is left is a matter of call sites and choices: that the end of a called frame leaves what is handed back
    pub exits_apart :
        ((f h : M.Fn) (s : M.Site) (b c : ℕ) → G.Call f b s h c → (e : M.Event) → E.IsExit e → (o a : M.Obj) → L.out s o ≡ Some a → L.source e a ≡ Some a)
        → ((f h : M.Fn) (s : M.Site) (b c : ℕ) → G.Call f b s h c → (e : M.Event) → E.IsExit e → (g : M.Global) (o a : M.Obj) → L.out s o ≡ Some a → (x : Option M.State) → M.choose e h false g a x ≡ x)
        → ExitsApart M L E G
    exits_apart unmoved kept = record {
      next = λ n. next_stays _ _ _ n.0 n.1 n.2 n.3;
      call = λ n. stay_at _ _ n.0 (Calls n.1 _) n.2 (sound_end _ _ n.0 (Calls n.1 _) n.2).0;
      last = λ n. exit_alone _ _ n.0 n.1;
      unmoved = λ j e i o a d. unmoved _ _ _ _ _ j e i o a d;
      kept = λ j e i g o a d x. kept _ _ _ _ _ j e i g o a d x;
      either = λ f b. either_is f b (slice_get (graph f).blocks b) refl;
    }
