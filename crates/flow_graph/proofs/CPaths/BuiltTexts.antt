-- What stands in a graph that the plain builder makes stands in the text of the function.
use Rattle.std.proofs.Common.{◌≡◌, ℕ, zero, suc, Bool, true, false, List, [], ◌∷◌, ◌++◌, ◌⊎◌, inl, inr, Option, None, Some, refl, sym, subst}
use Rattle.std.specs.Prelude.{not, map}
use Rattle.c_tree.specs.Node.{Node}
use Rattle.path_theory.specs.Marks.{EventMark, CallMark}
use Rattle.flow_graph.specs.CPaths.Events.{Event, Item, Branched, Exited, branched}
use Rattle.flow_graph.specs.CPaths.Facts.{Facts}
use Rattle.flow_graph.specs.CPaths.Forms.{Form, Plain, Inverts, Keeps, Both, Any, Chooses, Follows, Row, done, operand, item}
use Rattle.flow_graph.specs.CPaths.Flow.{Flow, Does, Block, If, While, Do, For, Switch, Case, Default, Label, Goto, Break, Continue, Return, Flows, no_flows, flows}
use Rattle.flow_graph.specs.CPaths.TreeFlow.{flow_of}
use Rattle.flow_graph.specs.CPaths.Traces.{Definition}
use Rattle.flow_graph.specs.CPaths.Labels.{if_so, has_default}
use Rattle.flow_graph.specs.CPaths.Occurrences.{InForm, InRow, InMaybe, InFlow, InFlows, InEvents, InEnding, InGraph}
use Rattle.flow_graph.specs.CPaths.Graphs.{Ending, ToAny, Calls, Stops}
use Rattle.flow_graph.specs.CPaths.Fragments.{Way, To, ToEither}
use Rattle.flow_graph.specs.CPaths.Layout.{Entry}
use Rattle.flow_graph.specs.CPaths.Building.{Sketch, Settled, Jumps, Waits, Draft, push, lead, filled, item_block, split_blocks, form_blocks, row_blocks, test_blocks, flow_blocks, flows_blocks, settled_ending, settled, body_graph, graph_of}

-- P holds of each item that may stand in a block
module _ (P : Item → Type 0) where
  abbrev OfEvents : List Event → Type 0
  OfEvents [] = Unit {0}
  OfEvents (e ∷ es) = P (EventMark e) × OfEvents es

  abbrev OfEnding : Ending → Type 0
  OfEnding (ToAny bs) = Unit {0}
  OfEnding (Calls site b) = P (CallMark site)
  OfEnding Stops = Unit {0}

  abbrev OfSketch : Sketch → Type 0
  OfSketch (Settled e) = OfEnding e
  OfSketch (Jumps L) = Unit {0}
  OfSketch Waits = Unit {0}

  abbrev OfDrafts : List Draft → Type 0
  OfDrafts [] = Unit {0}
  OfDrafts (d ∷ ds) = (OfEvents d.events × OfSketch d.ending) × OfDrafts ds

  one_more : (ds : List Draft) (d : Draft) → OfDrafts ds → OfEvents d.events → OfSketch d.ending → OfDrafts (ds ++ d ∷ [])
  one_more [] d s h k = ((h, k), tt)
  one_more (x ∷ ds) d s h k = (s.0, one_more ds d s.1 h k)

  of_push : (ds : List Draft) (es : List Event) (e : Sketch) → OfDrafts ds → OfEvents es → OfSketch e → OfDrafts (push ds es e).drafts
  of_push ds es e s h k = one_more ds (record { events = es; ending = e }) s h k

  of_filled : (ds : List Draft) (h t : ℕ) → OfDrafts ds → OfDrafts (filled ds h t)
  of_filled [] h t s = s
  of_filled (x ∷ ds) zero t s = ((tt, tt), s.1)
  of_filled (x ∷ ds) (suc h) t s = (s.0, of_filled ds h t s.1)

  of_item : (i : Item) (next : ℕ) (ds : List Draft) → P i → OfDrafts ds → OfDrafts (item_block i next ds).drafts
  of_item (EventMark e) next ds p s = of_push ds (e ∷ []) (Settled (ToAny (next ∷ []))) s (p, tt) tt
  of_item (CallMark site) next ds p s = of_push ds [] (Settled (Calls site next)) s tt p

  -- whether an expression that leads there is asked as a condition
  abbrev is_asked : Way → Bool
  is_asked (To x) = false
  is_asked (ToEither y z) = true

  of_split : (n : Node) (y z : ℕ) (ds : List Draft) → ((t : Bool) → P (branched n t)) → OfDrafts ds → OfDrafts (split_blocks n (ToEither y z) ds).drafts
  of_split n y z ds p s =
      let t = lead ds (Branched n true ∷ []) y in
      let f = lead t.drafts (Branched n false ∷ []) z in
      let at_t = of_push ds (Branched n true ∷ []) (Settled (ToAny (y ∷ []))) s (p true, tt) tt in
      let at_f = of_push t.drafts (Branched n false ∷ []) (Settled (ToAny (z ∷ []))) at_t (p false, tt) tt in
      of_push f.drafts [] (Settled (ToAny (t.block ∷ f.block ∷ []))) at_f tt tt

  mutual
    of_form : (e : Form) (way : Way) (ds : List Draft) → ((i : Item) → InForm i (is_asked way) e → P i) → OfDrafts ds → OfDrafts (form_blocks e way ds).drafts
    of_form (Plain n r) (To x) ds p s = of_row r x ds p s
    of_form (Plain n r) (ToEither y z) ds p s = let v = split_blocks n (ToEither y z) ds in of_row r v.block v.drafts (λ i h. p i (inr h)) (of_split n y z ds (λ t. p (branched n t) (inl (t, refl))) s)
    of_form (Inverts x r) (To v) ds p s = let c = row_blocks r v ds in of_form x (To c.block) c.drafts (λ i h. p i (inl h)) (of_row r v ds (λ i h. p i (inr h)) s)
    of_form (Inverts x r) (ToEither y z) ds p s = of_form x (ToEither z y) ds p s
    of_form (Keeps x r) (To v) ds p s = let c = row_blocks r v ds in of_form x (To c.block) c.drafts (λ i h. p i (inl h)) (of_row r v ds (λ i h. p i (inr h)) s)
    of_form (Keeps x r) (ToEither y z) ds p s = of_form x (ToEither y z) ds p s
    of_form (Both x y r) (To v) ds p s =
        let c = row_blocks r v ds in
        let d = form_blocks y (ToEither c.block c.block) c.drafts in
        of_form x (ToEither d.block c.block) d.drafts (λ i h. p i (inl h)) (of_form y (ToEither c.block c.block) c.drafts (λ i h. p i (inr (inl h))) (of_row r v ds (λ i h. p i (inr (inr h))) s))
    of_form (Both x y r) (ToEither t f) ds p s =
        let d = form_blocks y (ToEither t f) ds in
        of_form x (ToEither d.block f) d.drafts (λ i h. p i (inl h)) (of_form y (ToEither t f) ds (λ i h. p i (inr h)) s)
    of_form (Any x y r) (To v) ds p s =
        let c = row_blocks r v ds in
        let d = form_blocks y (ToEither c.block c.block) c.drafts in
        of_form x (ToEither c.block d.block) d.drafts (λ i h. p i (inl h)) (of_form y (ToEither c.block c.block) c.drafts (λ i h. p i (inr (inl h))) (of_row r v ds (λ i h. p i (inr (inr h))) s))
    of_form (Any x y r) (ToEither t f) ds p s =
        let d = form_blocks y (ToEither t f) ds in
        of_form x (ToEither t d.block) d.drafts (λ i h. p i (inl h)) (of_form y (ToEither t f) ds (λ i h. p i (inr h)) s)
    of_form (Chooses x y z r) (To v) ds p s =
        let c = row_blocks r v ds in
        let d = form_blocks y (To c.block) c.drafts in
        let e = form_blocks z (To c.block) d.drafts in
        of_form x (ToEither d.block e.block) e.drafts (λ i h. p i (inl h)) (of_form z (To c.block) d.drafts (λ i h. p i (inr (inr (inl h)))) (of_form y (To c.block) c.drafts (λ i h. p i (inr (inl h))) (of_row r v ds (λ i h. p i (inr (inr (inr h)))) s)))
    of_form (Chooses x y z r) (ToEither t f) ds p s =
        let d = form_blocks y (ToEither t f) ds in
        let e = form_blocks z (ToEither t f) d.drafts in
        of_form x (ToEither d.block e.block) e.drafts (λ i h. p i (inl h)) (of_form z (ToEither t f) d.drafts (λ i h. p i (inr (inr h))) (of_form y (ToEither t f) ds (λ i h. p i (inr (inl h))) s))
    of_form (Follows x y r) (To v) ds p s =
        let c = row_blocks r v ds in
        let d = form_blocks y (To c.block) c.drafts in
        of_form x (To d.block) d.drafts (λ i h. p i (inl h)) (of_form y (To c.block) c.drafts (λ i h. p i (inr (inl h))) (of_row r v ds (λ i h. p i (inr (inr h))) s))
    of_form (Follows x y r) (ToEither t f) ds p s =
        let d = form_blocks y (ToEither t f) ds in
        of_form x (To d.block) d.drafts (λ i h. p i (inl h)) (of_form y (ToEither t f) ds (λ i h. p i (inr h)) s)

    of_row : (r : Row) (v : ℕ) (ds : List Draft) → ((i : Item) → InRow i r → P i) → OfDrafts ds → OfDrafts (row_blocks r v ds).drafts
    of_row done v ds p s = s
    of_row (operand x r) v ds p s = let c = row_blocks r v ds in of_form x (To c.block) c.drafts (λ i h. p i (inl h)) (of_row r v ds (λ i h. p i (inr h)) s)
    of_row (item j r) v ds p s = let c = row_blocks r v ds in of_item j c.block c.drafts (p j (inl refl)) (of_row r v ds (λ i h. p i (inr h)) s)

  of_test : (c : Option Form) (body next head : ℕ) (ds : List Draft) → ((i : Item) → InMaybe i c → P i) → OfDrafts ds → OfDrafts (test_blocks c body next head ds)
  of_test None body next head ds p s = of_filled ds head body s
  of_test (Some c) body next head ds p s = let t = form_blocks c (ToEither body next) ds in of_filled t.drafts head t.block (of_form c (ToEither body next) ds p s)

  mutual
    of_flow : (s : Flow) (next brk cont : ℕ) (ds : List Draft) → ((i : Item) → InFlow i s → P i) → OfDrafts ds → OfDrafts (flow_blocks s next brk cont ds).drafts
    of_flow (Does r) next brk cont ds p k = of_row r next ds p k
    of_flow (Block ss) next brk cont ds p k = of_flows ss next brk cont ds p k
    of_flow (If c s t) next brk cont ds p k =
        let n = flow_blocks t next brk cont ds in
        let m = flow_blocks s next brk cont n.drafts in
        of_form c (ToEither m.block n.block) m.drafts (λ i h. p i (inl h)) (of_flow s next brk cont n.drafts (λ i h. p i (inr (inl h))) (of_flow t next brk cont ds (λ i h. p i (inr (inr h))) k))
    of_flow (While c s) next brk cont ds p k =
        let h = push ds [] Waits in
        let m = flow_blocks s h.block next h.block h.drafts in
        of_test (Some c) m.block next h.block m.drafts (λ i h. p i (inl h)) (of_flow s h.block next h.block h.drafts (λ i h. p i (inr h)) (of_push ds [] Waits k tt tt))
    of_flow (Do s c) next brk cont ds p k =
        let h = push ds [] Waits in
        let m = flow_blocks s h.block next h.block h.drafts in
        of_test (Some c) m.block next h.block m.drafts (λ i h. p i (inl h)) (of_flow s h.block next h.block h.drafts (λ i h. p i (inr h)) (of_push ds [] Waits k tt tt))
    of_flow (For j c u s) next brk cont ds p k =
        let h = push ds [] Waits in
        let t = row_blocks u h.block h.drafts in
        let m = flow_blocks s t.block next t.block t.drafts in
        of_row j h.block (test_blocks c m.block next h.block m.drafts) (λ i h. p i (inl h))
        (of_test c m.block next h.block m.drafts (λ i h. p i (inr (inl h)))
        (of_flow s t.block next t.block t.drafts (λ i h. p i (inr (inr (inr h))))
        (of_row u h.block h.drafts (λ i h. p i (inr (inr (inl h)))) (of_push ds [] Waits k tt tt))))
    of_flow (Switch r s) next brk cont ds p k =
        let m = flow_blocks s next next cont ds in
        let v = push m.drafts [] (Settled (ToAny (m.cases ++ if_so (not (has_default s)) next))) in
        of_row r v.block v.drafts (λ i h. p i (inl h)) (of_push m.drafts [] (Settled (ToAny (m.cases ++ if_so (not (has_default s)) next))) (of_flow s next next cont ds (λ i h. p i (inr h)) k) tt tt)
    of_flow (Case s) next brk cont ds p k = of_flow s next brk cont ds p k
    of_flow (Default s) next brk cont ds p k = of_flow s next brk cont ds p k
    of_flow (Label L s) next brk cont ds p k = of_flow s next brk cont ds p k
    of_flow (Goto L) next brk cont ds p k = of_push ds [] (Jumps L) k tt tt
    of_flow Break next brk cont ds p k = k
    of_flow Continue next brk cont ds p k = k
    of_flow (Return r e) next brk cont ds p k =
        let x = push ds (e ∷ []) (Settled Stops) in
        of_row r x.block x.drafts (λ i h. p i (inr h)) (of_push ds (e ∷ []) (Settled Stops) k (p (EventMark e) (inl refl), tt) tt)

    of_flows : (ss : Flows) (next brk cont : ℕ) (ds : List Draft) → ((i : Item) → InFlows i ss → P i) → OfDrafts ds → OfDrafts (flows_blocks ss next brk cont ds).drafts
    of_flows no_flows next brk cont ds p k = k
    of_flows (flows s ss) next brk cont ds p k =
        let n = flows_blocks ss next brk cont ds in
        of_flow s n.block brk cont n.drafts (λ i h. p i (inl h)) (of_flows ss next brk cont ds (λ i h. p i (inr h)) k)

  in_events : (i : Item) (es : List Event) → OfEvents es → InEvents i es → P i
  in_events i [] s h = absurd h
  in_events i (e ∷ es) s (inl h) = subst P (sym h) s.0
  in_events i (e ∷ es) s (inr h) = in_events i es s.1 h

  in_ending : (i : Item) (ps : List Entry) (e : Sketch) → OfSketch e → InEnding i (settled_ending ps e) → P i
  in_ending i ps (Settled (ToAny bs)) s h = absurd h
  in_ending i ps (Settled (Calls site b)) s h = subst P (sym h) s
  in_ending i ps (Settled Stops) s h = absurd h
  in_ending i ps (Jumps L) s h = absurd h
  in_ending i ps Waits s h = absurd h

  in_drafts : (i : Item) (ps : List Entry) (ds : List Draft) → OfDrafts ds → InGraph i (map (settled ps) ds) → P i
  in_drafts i ps [] s h = absurd h
  in_drafts i ps (d ∷ ds) s (inl (inl h)) = in_events i d.events s.0.0 h
  in_drafts i ps (d ∷ ds) s (inl (inr h)) = in_ending i ps d.ending s.0.1 h
  in_drafts i ps (d ∷ ds) s (inr h) = in_drafts i ps ds s.1 h

pub body_graph_text : (body : Flow) (exit : Event) (i : Item) → InGraph i (body_graph body exit).blocks → InFlow i body ⊎ (i ≡ EventMark exit)
body_graph_text body exit i h =
    let dead = push [] [] (Settled (ToAny [])) in
    let last = push dead.drafts (exit ∷ []) (Settled Stops) in
    let m = flow_blocks body last.block dead.block dead.block last.drafts in
    in_drafts (λ j. InFlow j body ⊎ (j ≡ EventMark exit)) i m.labels m.drafts
    (of_flow (λ j. InFlow j body ⊎ (j ≡ EventMark exit)) body last.block dead.block dead.block last.drafts (λ j k. inl k) ((tt, tt), (((inr refl, tt), tt), tt)))
    h

pub built_graph_text : (F : Facts) (d : Definition) (i : Item) → InGraph i (graph_of F d).blocks → InFlow i (flow_of F d.place d.body) ⊎ (i ≡ EventMark (Exited d.place d.close))
built_graph_text F d i h = body_graph_text (flow_of F d.place d.body) (Exited d.place d.close) i h
