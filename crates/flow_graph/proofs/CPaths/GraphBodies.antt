-- The marked walks of a sound graph are its traces, with the end behind an exit; so those of a function's graph are those of
-- its body by steps.
use Rattle.std.proofs.Common.{◌≡◌, ◌↔◌, ℕ, zero, suc, Bool, true, false, List, [], ◌∷◌, ◌++◌, inl, inr, Option, None, Some, refl, sym, ap, ◌∙◌, subst, append_assoc}
use Rattle.std.specs.Prelude.{slice_get}
use Rattle.std.proofs.lemmas.List.{append-nil}
use Rattle.c_tree.specs.Node.{Node}
use Rattle.path_theory.specs.Model.{Model}
use Rattle.path_theory.specs.Trails.{Trail, Start, More}
use Rattle.path_theory.specs.Marks.{Mark, EventMark, CallMark, Bodies, Marked, MarkedWalk, MarkedStart, MarkedSkip, MarkedGo, MarkedCall, HasMarked}
use Rattle.flow_graph.specs.CPaths.Events.{Event, Item}
use Rattle.flow_graph.specs.CPaths.Facts.{Facts}
use Rattle.flow_graph.specs.CPaths.Traces.{Definition, Trace}
use Rattle.flow_graph.specs.CPaths.Exits.{is_exit, NoExits}
use Rattle.flow_graph.specs.CPaths.Graphs.{Block, Ending, ToAny, Calls, Stops, marks_of, Leaves, AtBlock, Walks, GraphTrace}
use Rattle.flow_graph.specs.CPaths.Fragments.{Has}
use Rattle.flow_graph.specs.CPaths.SoundGraphs.{IsSoundEnd, AreSound, IsSoundGraph}
use Rattle.flow_graph.specs.CPaths.Building.{Graph, graph_of}
use Rattle.flow_graph.specs.CPaths.Bodies.{Spot, Head, Before, SpotSkips, SpotGoes, SpotMarks, SpotEnds, step_bodies, graph_bodies, marked_then, ends_in_exit}
use Rattle.flow_graph.proofs.CPaths.GraphWalks.{marks_append, walks_nil, Reaches, closed, block_to, reaches_then}
use Rattle.flow_graph.proofs.CPaths.StepBodies.{ends_snoc, marks_snoc, WalksAre, same_walks, step_walks}
use Rattle.flow_graph.proofs.CPaths.BuiltGraphs.{built_traces}
use Rattle.flow_graph.proofs.CPaths.SoundDrafts.{built_graph_sound}

pub sound_at : (n : ℕ) (ss : List Block) (b : ℕ) (s : Block) → AreSound n ss → slice_get ss b ≡ Some s → IsSoundEnd n s.events s.ending
sound_at n [] b s a e = let f : ◌≡◌ {A = Option Block} None (Some s) = e in cc
sound_at n (x ∷ ss) zero s a e = subst (λ (z : Block). IsSoundEnd n z.events z.ending) (the_same x s e) a.0
  where
    the_same : (x y : Block) → Some x ≡ Some y → x ≡ y
    the_same x y p = cc
sound_at n (x ∷ ss) (suc b) s a e = sound_at n ss b s a.1 e

-- what is left of a sound block: an exit is the last event where the block stops, and no event elsewhere
abbrev Left : List Event → Ending → Type 0
Left es (ToAny bs) = NoExits es
Left es (Calls s b) = NoExits es
Left [] Stops = Unit {0}
Left (e ∷ es) Stops = es ≡ []

left_sound : (n : ℕ) (es : List Event) (end : Ending) → IsSoundEnd n es end → Left es end
left_sound n es (ToAny bs) h = h.0
left_sound n es (Calls s b) h = h.0
left_sound n [] Stops h = tt
left_sound n (e ∷ es) Stops h = let q : e ∷ es ≡ h.0 ∷ [] = h.2 in cc

-- behind an event of it the frame ends, if that is an exit
left_ends : (e : Event) (es : List Event) (end : Ending) → Left (e ∷ es) end → is_exit (EventMark e) ≡ true → SpotEnds (Before es end)
left_ends e es (ToAny bs) h q = let r : is_exit (EventMark e) ≡ false = h.0 in let bad : false ≡ true = sym r ∙ q in cc
left_ends e es (Calls s b) h q = let r : is_exit (EventMark e) ≡ false = h.0 in let bad : false ≡ true = sym r ∙ q in cc
left_ends e es Stops h q = subst (λ z. SpotEnds (Before z Stops)) (sym h) tt

left_rest : (e : Event) (es : List Event) (end : Ending) → Left (e ∷ es) end → Left es end
left_rest e es (ToAny bs) h = h.1
left_rest e es (Calls s b) h = h.1
left_rest e es Stops h = subst (λ z. Left z Stops) (sym h) tt

module _ (M : Model) (facts : M.Fn → Facts) (definition : M.Fn → Definition) (event : M.Fn → Event → M.Event) (site : M.Fn → Node → M.Site) (graph : M.Fn → Graph) (f : M.Fn) (sound : IsSoundGraph (graph f).blocks (graph f).entry) where
  abbrev B : Bodies M
  B = graph_bodies M facts definition event site graph

  abbrev g : List Block
  g = (graph f).blocks

  abbrev marks : Trail (Mark M.Event M.Site) → List Item → Trail (Mark M.Event M.Site)
  marks t w = marked_then M facts definition event site f t w

  -- where a walk has come
  record Within (w : List Item) (es : List Event) (end : Ending) : Type 0 where
    block : ℕ
    done : List Event
    word : List Item
    reaches : Reaches g word (graph f).entry block
    has : Has g block (done ++ es) end
    is : w ≡ word ++ marks_of done

  abbrev At : List Item → Spot → Type 0
  At w (Head c) = Reaches g w (graph f).entry c
  At w (Before es end) = Within w es end

  record Come (l : Marked M) (p : Spot) : Type 0 where
    word : List Item
    is : l ≡ marks Start word
    at : At word p

  skip : (w : List Item) (p q : Spot) → SpotSkips g p q → At w p → At w q
  skip w (Head b) (Before es end) s a = record { block = b; done = []; word = w; reaches = a; has = s; is = sym (append-nil w) }
  skip w (Before [] (ToAny bs)) (Head c) s a =
      subst (λ z. Reaches g z (graph f).entry c) (ap (λ z. a.word ++ z) (ap marks_of (nil_event a.done)) ∙ sym a.is)
      (reaches_then g a.word (marks_of (a.done ++ [])) (graph f).entry a.block c a.reaches (block_to g a.block (a.done ++ []) bs c a.has s))
    where
      nil_event : (xs : List Event) → xs ++ [] ≡ xs
      nil_event [] = refl
      nil_event (x ∷ xs) = ap (λ z. x ∷ z) (nil_event xs)
  skip w _ _ s a = absurd s

  go : (w : List Item) (p : Spot) (i : Event) (q : Spot) → SpotGoes p i q → At w p → At (w ++ EventMark i ∷ []) q
  go w (Before (j ∷ es) end) i (Before fs last) s a = record {
    block = a.block;
    done = a.done ++ i ∷ [];
    word = a.word;
    reaches = a.reaches;
    has = subst (λ z. Has g a.block z last) (ap (λ z. a.done ++ z) (ap (λ z. z ∷ es) (sym s.2) ∙ ap (λ z. i ∷ z) (sym s.0)) ∙ sym (event_assoc a.done (i ∷ []) fs)) (subst (λ z. Has g a.block (a.done ++ j ∷ es) z) (sym s.1) a.has);
    is = ap (λ z. z ++ EventMark i ∷ []) a.is ∙ append_assoc a.word (marks_of a.done) (EventMark i ∷ []) ∙ ap (λ z. a.word ++ z) (sym (marks_append a.done (i ∷ [])));
  }
    where
      event_assoc : (x y z : List Event) → (x ++ y) ++ z ≡ x ++ (y ++ z)
      event_assoc [] y z = refl
      event_assoc (e ∷ x) y z = ap (λ v. e ∷ v) (event_assoc x y z)
  go w _ i _ s a = absurd s

  over_call : (w : List Item) (p : Spot) (n : Node) (q : Spot) → SpotMarks p n q → At w p → At (w ++ CallMark n ∷ []) q
  over_call w (Before [] (Calls m b)) n (Head c) s a =
      subst (λ z. Reaches g (w ++ CallMark z ∷ []) (graph f).entry c) (sym s.1) (subst (Reaches g (w ++ CallMark m ∷ []) (graph f).entry) (sym s.0)
      (subst (λ z. Reaches g z (graph f).entry b) whole (reaches_then g a.word (marks_of (a.done ++ []) ++ CallMark m ∷ []) (graph f).entry a.block b a.reaches call)))
    where
      nil_event : (xs : List Event) → xs ++ [] ≡ xs
      nil_event [] = refl
      nil_event (x ∷ xs) = ap (λ z. x ∷ z) (nil_event xs)

      call : Reaches g (marks_of (a.done ++ []) ++ CallMark m ∷ []) a.block b
      call = record {
        by = λ k r walk. (
          suc k,
          closed g k a.block (record { events = a.done ++ []; ending = Calls m b }) ((marks_of (a.done ++ []) ++ CallMark m ∷ []) ++ r) a.has
              (inr (CallMark m ∷ r, inr (r, walk, refl), append_assoc (marks_of (a.done ++ [])) (CallMark m ∷ []) r)),
        );
      }

      whole : a.word ++ (marks_of (a.done ++ []) ++ CallMark m ∷ []) ≡ w ++ CallMark m ∷ []
      whole = ap (λ z. a.word ++ (marks_of z ++ CallMark m ∷ [])) (nil_event a.done) ∙ sym (append_assoc a.word (marks_of a.done) (CallMark m ∷ [])) ∙ ap (λ z. z ++ CallMark m ∷ []) (sym a.is)
  over_call w _ n _ s a = absurd s

  come : (l : Marked M) (p : Spot) → MarkedWalk M B f l p → Come l p
  come l p MarkedStart = record { word = []; is = refl; at = record { by = λ n r w. (n, w) } }
  come l q (MarkedSkip {p = p} walk s) = let a = come l p walk in record { word = a.word; is = a.is; at = skip a.word p q s a.at }
  come _ q (MarkedGo {l = l} {p = p} walk e s) =
      let a = come l p walk in
      record {
        word = a.word ++ EventMark s.0 ∷ [];
        is = ap (λ x. More l (EventMark x)) s.2 ∙ ap (λ t. More t (EventMark (event f s.0))) a.is ∙ sym (marks_snoc M facts definition event site f Start a.word (EventMark s.0));
        at = go a.word p s.0 q s.1 a.at;
      }
  come _ q (MarkedCall {l = l} {p = p} walk c s) =
      let a = come l p walk in
      record {
        word = a.word ++ CallMark s.0 ∷ [];
        is = ap (λ x. More l (CallMark x)) s.2 ∙ ap (λ t. More t (CallMark (site f s.0))) a.is ∙ sym (marks_snoc M facts definition event site f Start a.word (CallMark s.0));
        at = over_call a.word p s.0 q s.1 a.at;
      }

  at_trace : (w : List Item) (p : Spot) → At w p → GraphTrace g (graph f).entry w
  at_trace w (Head c) a = let t = a.by 0 [] (walks_nil g 0 c) in (t.0, [], t.1)
  at_trace w (Before es end) a =
      let block : Walks g 1 a.block (marks_of (a.done ++ es)) = closed g 0 a.block (record { events = a.done ++ es; ending = end }) (marks_of (a.done ++ es)) a.has (inr ([], nothing end, sym (append-nil (marks_of (a.done ++ es))))) in
      let t = a.reaches.by 1 (marks_of (a.done ++ es)) block in
      (t.0, marks_of es, subst (Walks g t.0 (graph f).entry) (ap (λ z. a.word ++ z) (marks_append a.done es) ∙ sym (append_assoc a.word (marks_of a.done) (marks_of es)) ∙ ap (λ z. z ++ marks_of es) (sym a.is)) t.1)
    where
      nothing : (end : Ending) → Leaves (Walks g 0) end []
      nothing (ToAny bs) = inl refl
      nothing (Calls s b) = inl refl
      nothing Stops = refl

  at_end : (w : List Item) (p : Spot) → At w p → SpotEnds p → ends_in_exit false w ≡ true
  at_end w (Before [] Stops) a e =
      let s = sound_at _ g a.block (record { events = a.done ++ []; ending = Stops }) sound.0 a.has in
      let done_is : marks_of a.done ≡ EventMark s.0 ∷ [] = ap marks_of (sym (nil_event a.done) ∙ s.2) in
      ap (ends_in_exit false) (a.is ∙ ap (λ z. a.word ++ z) done_is) ∙ ends_snoc false a.word (EventMark s.0) ∙ s.1
    where
      nil_event : (xs : List Event) → xs ++ [] ≡ xs
      nil_event [] = refl
      nil_event (x ∷ xs) = ap (λ z. x ∷ z) (nil_event xs)
  at_end w _ a e = absurd e

  -- a walk that has come so far goes on by the list
  abbrev Goes_on : Marked M → Bool → List Item → Type 0
  Goes_on t b w = (p : Spot) × MarkedWalk M B f (marks t w) p × (ends_in_exit b w ≡ true → SpotEnds p)

  same_front : (j i : Item) (v z : List Item) → j ∷ v ≡ i ∷ z → (j ≡ i) × (v ≡ z)
  same_front j i v z e = (cc, cc)

  no_more : (w r : List Item) → w ++ r ≡ [] → w ≡ []
  no_more [] r e = refl
  no_more (x ∷ w) r e = cc

  pass : (es : List Event) (end : Ending) (y : List Item) → Left es end
      → ((t : Marked M) (b : Bool) (w r : List Item) → MarkedWalk M B f t (Before [] end) → (b ≡ true → SpotEnds (Before [] end)) → w ++ r ≡ y → Goes_on t b w)
      → (t : Marked M) (b : Bool) (w r : List Item) → MarkedWalk M B f t (Before es end) → (b ≡ true → SpotEnds (Before es end)) → w ++ r ≡ marks_of es ++ y → Goes_on t b w
  pass [] end y left next t b w r walk ends e = next t b w r walk ends e
  pass (i ∷ es) end y left next t b [] r walk ends e = (Before (i ∷ es) end, walk, ends)
  pass (i ∷ es) end y left next t b (j ∷ w) r walk ends e =
      let parts = same_front j (EventMark i) (w ++ r) (marks_of es ++ y) e in
      subst (λ z. Goes_on t b (z ∷ w)) (sym parts.0)
      (pass es end y (left_rest i es end left) next (More t (EventMark (event f i))) (is_exit (EventMark i)) w r (MarkedGo walk (event f i) (i, (refl, refl, refl), refl)) (λ q. left_ends i es end left q) parts.1)

  -- behind a block's events, given how a walk goes on at the head of a block
  leaves : (n : ℕ) → ((d : ℕ) (z : List Item) → Walks g n d z → (u : Marked M) (x s : List Item) → MarkedWalk M B f u (Head d) → x ++ s ≡ z → Goes_on u false x)
      → (end : Ending) (z : List Item) → Leaves (Walks g n) end z → (u : Marked M) (c : Bool) (x s : List Item) → MarkedWalk M B f u (Before [] end) → (c ≡ true → SpotEnds (Before [] end)) → x ++ s ≡ z → Goes_on u c x
  leaves n next (ToAny bs) z (inl e) u c x s walk ends h = subst (Goes_on u c) (sym (no_more x s (h ∙ e))) (Before [] (ToAny bs), walk, ends)
  leaves n next (ToAny bs) z (inr (d, i, v)) u true x s walk ends h = absurd (ends refl)
  leaves n next (ToAny bs) z (inr (d, i, v)) u false x s walk ends h = next d z v u x s (MarkedSkip walk i) h
  leaves n next (Calls m d) z (inl e) u c x s walk ends h = subst (Goes_on u c) (sym (no_more x s (h ∙ e))) (Before [] (Calls m d), walk, ends)
  leaves n next (Calls m d) z (inr (k, v, e)) u c [] s walk ends h = (Before [] (Calls m d), walk, ends)
  leaves n next (Calls m d) z (inr (k, v, e)) u c (j ∷ x) s walk ends h =
      let parts = same_front j (CallMark m) (x ++ s) k (h ∙ e) in
      subst (λ i. Goes_on u c (i ∷ x)) (sym parts.0) (next d k v (More u (CallMark (site f m))) x s (MarkedCall walk (site f m) (m, (refl, refl), refl)) parts.1)
  leaves n next Stops z e u c x s walk ends h = subst (Goes_on u c) (sym (no_more x s (h ∙ e))) (Before [] Stops, walk, ends)

  nothing_more : (t : Marked M) (b : ℕ) (w r : List Item) → MarkedWalk M B f t (Head b) → w ++ r ≡ [] → Goes_on t false w
  nothing_more t b w r walk e = subst (Goes_on t false) (sym (no_more w r e)) (Head b, walk, (λ x. let bad : false ≡ true = x in cc))

  block_goes : (n b : ℕ) (y : List Item) → ((d : ℕ) (z : List Item) → Walks g n d z → (u : Marked M) (x s : List Item) → MarkedWalk M B f u (Head d) → x ++ s ≡ z → Goes_on u false x)
      → (o : Option Block) → slice_get g b ≡ o → AtBlock (Walks g n) o y → (t : Marked M) (w r : List Item) → MarkedWalk M B f t (Head b) → w ++ r ≡ y → Goes_on t false w
  block_goes n b y next None e v t w r walk q = nothing_more t b w r walk (q ∙ v)
  block_goes n b y next (Some s) e (inl v) t w r walk q = nothing_more t b w r walk (q ∙ v)
  block_goes n b y next (Some s) e (inr (z, l, v)) t w r walk q =
      pass s.events s.ending z (left_sound _ s.events s.ending (sound_at _ g b s sound.0 e)) (leaves n next s.ending z l) t false w r (MarkedSkip walk e) (λ x. let bad : false ≡ true = x in cc) (q ∙ v)

  from : (n b : ℕ) (y : List Item) → Walks g n b y → (t : Marked M) (w r : List Item) → MarkedWalk M B f t (Head b) → w ++ r ≡ y → Goes_on t false w
  from zero b y e t w r walk q = nothing_more t b w r walk (q ∙ e)
  from (suc n) b y v t w r walk q = block_goes n b y (λ d z v u x s walk h. from n d z v u x s walk h) (slice_get g b) refl v t w r walk q

  pub graph_walks : WalksAre M facts definition event site B f (GraphTrace (graph f).blocks (graph f).entry)
  graph_walks = record {
    walked = λ l p walk. let a = come l p walk in (a.word, a.is, at_trace a.word p a.at, λ e. at_end a.word p a.at e);
    walks = λ w t. from t.0 (graph f).entry (w ++ t.1) t.2 Start w t.1 MarkedStart refl;
  }

module _ (M : Model) (facts : M.Fn → Facts) (definition : M.Fn → Definition) (event : M.Fn → Event → M.Event) (site : M.Fn → Node → M.Site) where
  abbrev by_steps : Bodies M
  by_steps = step_bodies M facts definition event site

  abbrev by_graphs : (M.Fn → Graph) → Bodies M
  by_graphs graph = graph_bodies M facts definition event site graph

  -- sound graphs with the traces of the functions have their marked walks
  pub graphs_have_walks : (graph : M.Fn → Graph) → ((f : M.Fn) → IsSoundGraph (graph f).blocks (graph f).entry)
      → ((f : M.Fn) (l : List Item) → Trace (facts f) (definition f) l ↔ GraphTrace (graph f).blocks (graph f).entry l)
      → HasMarked M by_steps (by_graphs graph) × HasMarked M (by_graphs graph) by_steps
  graphs_have_walks graph sound same = (
    same_walks M facts definition event site by_steps (by_graphs graph) (λ f w. Trace (facts f) (definition f) w) (λ f w. GraphTrace (graph f).blocks (graph f).entry w) (λ f w t. (same f w).0 t)
        (λ f. step_walks M facts definition event site f) (λ f. graph_walks M facts definition event site graph f (sound f)),
    same_walks M facts definition event site (by_graphs graph) by_steps (λ f w. GraphTrace (graph f).blocks (graph f).entry w) (λ f w. Trace (facts f) (definition f) w) (λ f w t. (same f w).1 t)
        (λ f. graph_walks M facts definition event site graph f (sound f)) (λ f. step_walks M facts definition event site f),
  )

  -- so have those that the plain builder makes
  pub built_graphs_have_walks : (let graph = λ (f : M.Fn). graph_of (facts f) (definition f) in HasMarked M by_steps (by_graphs graph) × HasMarked M (by_graphs graph) by_steps)
  built_graphs_have_walks = graphs_have_walks (λ f. graph_of (facts f) (definition f)) (λ f. built_graph_sound (facts f) (definition f)) (λ f l. built_traces (facts f) (definition f) l)
