-- What the traces of a function meet stands in the blocks of its graph that control reaches, and all that stands there is met.
use Rattle.std.proofs.Common.{◌≡◌, inl, inr, ℕ, List, [], ◌∷◌, slice_get, Option, None, Some, refl, sym, subst}
use Rattle.flow_graph.specs.CPaths.BlockGraphs.{events_at, LeadsTo, block_graphs}
use Rattle.flow_graph.specs.CPaths.Building.{Graph}
use Rattle.flow_graph.specs.CPaths.Events.{Event}
use Rattle.flow_graph.specs.CPaths.Fragments.{Has}
use Rattle.flow_graph.specs.CPaths.Graphs.{Ending, ToAny, Calls, Stops}
use Rattle.flow_graph.specs.CPaths.Membership.{Among}
use Rattle.c_tree.specs.Node.{Node}
use Rattle.path_theory.specs.FlowGraphs.{FlowGraphs, Point, Head, Before, PointSkips, EntersBlock, LeavesBlock, PointGoes, PassesEvent, PointCalls, MakesCall, supergraph}
use Rattle.path_theory.specs.Model.{Model}
use Rattle.path_theory.specs.Relevant.{EventOf, CallOf}
use Rattle.path_theory.specs.Supergraph.{Supergraph}
use Rattle.path_theory.specs.Trails.{Start, More}
use Rattle.path_theory.specs.Walks.{AtEvent, AtCall, Labels, Walk, WalkStart, WalkSkip, WalkGo, WalkCall}
use Rattle.flow_graph.specs.ReachedBlocks.Reached.{GoesOn, Reaches, Begins, Onward, Happens, Called}
use Rattle.flow_graph.proofs.CPaths.MappedLists.{mapped, map-among}

-- a jump, or a call that isn't followed
goes-on : (P : Node → Type 0) (end : Ending) (c : ℕ) → LeadsTo P end c → GoesOn end c
goes-on P (ToAny bs) c h = h
goes-on P (Calls n b) c h = sym h.1
goes-on P Stops c h = h

module _ (M : Model) (event : M.Fn → Event → M.Event) (site : M.Fn → Node → M.Site) (graph : M.Fn → Graph) (IsRoot : M.Fn → Type 0) (followed : M.Fn → M.Site → Option M.Fn) where
  abbrev G : FlowGraphs M
  G = block_graphs M event site graph IsRoot followed

  abbrev K : Supergraph M
  K = supergraph M G

  -- ---- what is met stands in a reached block

  -- the block of the point is reached, and what is still to come in it is of the block
  abbrev IsAt : M.Fn → Point ℕ M.Event → Type 0
  IsAt f (Head b) = Reaches (graph f) b
  IsAt f (Before b es) = Reaches (graph f) b × ((e : M.Event) → Among e es → Among e (G.events f b))

  at-skip : {f : M.Fn} (p q : Point ℕ M.Event) → PointSkips M G f p q → IsAt f p → IsAt f q
  at-skip _ _ (EntersBlock b) r = (r, λ e i. i)
  at-skip {f} _ _ (LeavesBlock {b} {c} n) r = Onward r.0 (record { events = n.0; ending = n.1; has = n.2; goes = goes-on (λ m. followed f (site f m) ≡ None) n.1 c n.3 })

  at-go : {f : M.Fn} (p : Point ℕ M.Event) (e : M.Event) (q : Point ℕ M.Event) → PointGoes M G f p e q → IsAt f p → IsAt f q
  at-go _ _ _ (PassesEvent b e es) r = (r.0, λ d i. r.1 d (inr i))

  at-call : {f h : M.Fn} (p : Point ℕ M.Event) (s : M.Site) (q : Point ℕ M.Event) → PointCalls M G f p s h q → IsAt f p → IsAt f q
  at-call _ _ _ (MakesCall {b} {c} j) r = Onward r.0 (record { events = j.0; ending = Calls j.1 c; has = j.2; goes = refl })

  at : {f : M.Fn} {l : Labels M} {p : Point ℕ M.Event} → Walk M K f l p → IsAt f p
  at WalkStart = Begins
  at (WalkSkip w t) = at-skip _ _ t (at w)
  at (WalkGo w e t) = at-go _ _ _ t (at w)
  at (WalkCall w s h t) = at-call _ _ _ t (at w)

  event-here : (f : M.Fn) (p : Point ℕ M.Event) (h : M.Event) (q : Point ℕ M.Event) → PointGoes M G f p h q → IsAt f p → (e : Event) × Happens (graph f) e × (h ≡ event f e)
  event-here f _ _ _ (PassesEvent b h es) r =
      let k = mapped (event f) (events_at (slice_get (graph f).blocks b)) h (r.1 h (inl refl)) in
      (k.0, record { block = b; reached = r.0; among = k.1 }, k.2)

  -- AN EVENT OF A TRACE is one of a block that control reaches.
  pub event-reached : (f : M.Fn) (h : M.Event) → EventOf M K f h → (e : Event) × Happens (graph f) e × (h ≡ event f e)
  event-reached f h w = event-here f w.from h w.to w.goes (at w.walk)

  call-here : (f : M.Fn) (p : Point ℕ M.Event) (s : M.Site) (h : M.Fn) (q : Point ℕ M.Event) → PointCalls M G f p s h q → IsAt f p → (n : Node) × Called (graph f) n × (s ≡ site f n) × (followed f s ≡ Some h)
  call-here f _ _ _ _ (MakesCall {b} {c} j) r = (j.1, record { block = b; events = j.0; next = c; reached = r.0; has = j.2 }, j.3, j.4)

  -- A FOLLOWED CALL OF A TRACE is one at the end of such a block.
  pub call-reached : (f : M.Fn) (s : M.Site) (h : M.Fn) → CallOf M K f s h → (n : Node) × Called (graph f) n × (s ≡ site f n) × (followed f s ≡ Some h)
  call-reached f s h w = call-here f w.from s h w.to w.calls (at w.walk)

  -- ---- what stands in a reached block is met

  -- through the events of a block
  through : (f : M.Fn) (b : ℕ) (es : List M.Event) (l : Labels M) → Walk M K f l (Before b es) → (m : Labels M) × Walk M K f m (Before b [])
  through f b [] l w = (l, w)
  through f b (e ∷ es) l w = through f b es (More l (AtEvent e)) (WalkGo w e (PassesEvent b e es))

  leave : (f : M.Fn) (b c : ℕ) (l : Labels M) → Walk M K f l (Before b []) → (es : List Event) (end : Ending) → Has (graph f).blocks b es end → GoesOn end c → (m : Labels M) × Walk M K f m (Head c)
  leave f b c l w es (ToAny bs) has g = (l, WalkSkip w (LeavesBlock (es, ToAny bs, has, g)))
  leave f b c l w es (Calls n d) has g = by (followed f (site f n)) refl
    where
      by : (q : Option M.Fn) → followed f (site f n) ≡ q → (m : Labels M) × Walk M K f m (Head c)
      by None k = (l, WalkSkip w (LeavesBlock (es, Calls n d, has, (k, sym g))))
      by (Some h) k = (More l (AtCall (site f n) h), WalkCall w (site f n) h (MakesCall (es, n, subst (λ x. Has (graph f).blocks b es (Calls n x)) g has, refl, k)))
  leave f b c l w es Stops has g = absurd g

  -- a walk comes to the head of each block that is reached
  reached-walk : (f : M.Fn) {b : ℕ} → Reaches (graph f) b → (l : Labels M) × Walk M K f l (Head b)
  reached-walk f Begins = (Start, WalkStart)
  reached-walk f (Onward {b} {c} r s) =
      let w = reached-walk f r in
      let v = through f b (G.events f b) w.0 (WalkSkip w.1 (EntersBlock b)) in
      leave f b c v.0 v.1 s.events s.ending s.has s.goes

  event-among : (f : M.Fn) (b : ℕ) (es : List M.Event) (e : M.Event) (l : Labels M) → Walk M K f l (Before b es) → Among e es → EventOf M K f e
  event-among f b [] e l w h = absurd h
  event-among f b (d ∷ es) e l w (inl same) = record {
    labels = l;
    from = Before b (d ∷ es);
    to = Before b es;
    walk = w;
    goes = subst (λ x. PointGoes M G f (Before b (d ∷ es)) x (Before b es)) (sym same) (PassesEvent b d es);
  }
  event-among f b (d ∷ es) e l w (inr h) = event-among f b es e (More l (AtEvent d)) (WalkGo w d (PassesEvent b d es)) h

  -- EACH EVENT OF A BLOCK that control reaches is one of a trace.
  pub event-met : (f : M.Fn) (e : Event) → Happens (graph f) e → EventOf M K f (event f e)
  event-met f e h =
      let w = reached-walk f h.reached in
      event-among f h.block (G.events f h.block) (event f e) w.0 (WalkSkip w.1 (EntersBlock h.block)) (map-among (event f) (events_at (slice_get (graph f).blocks h.block)) e h.among)

  -- EACH CALL AT THE END OF SUCH A BLOCK is one of a trace, if it is followed.
  pub call-met : (f : M.Fn) (n : Node) (h : M.Fn) → Called (graph f) n → followed f (site f n) ≡ Some h → CallOf M K f (site f n) h
  call-met f n h k e =
      let w = reached-walk f k.reached in
      let v = through f k.block (G.events f k.block) w.0 (WalkSkip w.1 (EntersBlock k.block)) in
      record { labels = v.0; from = Before k.block []; to = Head k.next; walk = v.1; calls = MakesCall (k.events, n, k.has, refl, e) }
