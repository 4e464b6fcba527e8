-- What the plain builder builds has the blocks of the body, so it has exactly its traces.
use Rattle.std.proofs.Common.{◌≡◌, ◌≢◌, ◌↔◌, ℕ, zero, suc, Bool, true, false, List, [], ◌∷◌, ◌++◌, inl, inr, Option, None, Some, refl, sym, ap, ◌∙◌, length}
use Rattle.std.specs.Prelude.{slice_get, slice_set, not, map, ◌==◌}
use Rattle.std.proofs.lemmas.Option.{slice_get-map}
use Rattle.std.proofs.lemmas.Bool.{eqb-true, eq-eqb}
use Rattle.c_tree.specs.Node.{Node}
use Rattle.path_theory.specs.Marks.{EventMark, CallMark}
use Rattle.flow_graph.specs.CPaths.Membership.{Among}
use Rattle.flow_graph.specs.CPaths.Events.{Event, Item, Branched, Exited}
use Rattle.flow_graph.specs.CPaths.Facts.{Facts}
use Rattle.flow_graph.specs.CPaths.Forms.{Form, Plain, Inverts, Keeps, Both, Any, Chooses, Follows, Row, done, operand, item}
use Rattle.flow_graph.specs.CPaths.Flow.{Flow, Does, Block, If, While, Do, For, Switch, Case, Default, Label, Goto, Break, Continue, Return, Flows, no_flows, flows}
use Rattle.flow_graph.specs.CPaths.TreeFlow.{flow_of}
use Rattle.flow_graph.specs.CPaths.Traces.{Definition, Trace}
use Rattle.flow_graph.specs.CPaths.Labels.{if_so, has_default}
use Rattle.flow_graph.specs.CPaths.Graphs.{Ending, ToAny, Calls, Stops, GraphTrace}
use Rattle.flow_graph.specs.CPaths.Fragments.{Way, To, ToEither, Has, Split, ItemAt, Fits, FitsRow}
use Rattle.flow_graph.specs.CPaths.Layout.{Entry, HasEntry, TestAt, Built, BuiltIn, GotoAt, IsGraphOf}
use Rattle.flow_graph.specs.CPaths.Building.{Sketch, Settled, Jumps, Waits, Draft, push, lead, filled, item_block, split_blocks, form_blocks, row_blocks, test_blocks, flow_blocks, flows_blocks, label_blocks, settled, body_graph, graph_of}
use Rattle.flow_graph.proofs.CPaths.Ahead.{}
use Rattle.flow_graph.proofs.CPaths.Listed.{among_front, among_back, among_either}
use Rattle.flow_graph.proofs.CPaths.StatementWalks.{graph_traces}
use Rattle.flow_graph.proofs.CPaths.DraftGrowth.{get_seam, set_here, Grown, grown_then, push_grown, item_grown, form_grown, row_grown, flow_grown}

-- a draft that waits
abbrev waiting : Draft
waiting = record { events = []; ending = Waits }

-- what a draft says of its block: it has these events and this end, or it is that of a `goto`; nothing while it waits
abbrev Tells : (ℕ → List Event → Ending → Type 0) → (ℕ → ℕ → Type 0) → ℕ → List Event → Sketch → Type 0
Tells K J b es (Settled e) = K b es e
Tells K J b es (Jumps L) = es ≡ [] → J L b
Tells K J b es Waits = Unit {0}

apart : (ds : List Draft) (h b : ℕ) (d : Draft) → slice_get ds h ≡ Some waiting → slice_get ds b ≡ Some d → d.ending ≢ Waits → b ≢ h
apart ds h b d w e n q = n (same_ending (ap (λ i. slice_get ds i) (sym q) ∙ e) w)
  where
    same_ending : {o : Option Draft} → o ≡ Some d → o ≡ Some waiting → d.ending ≡ Waits
    same_ending x y = same_draft d waiting (sym x ∙ y)
      where
        same_draft : (x y : Draft) → Some x ≡ Some y → x.ending ≡ y.ending
        same_draft x y p = let q : x ≡ y = (cc) in ap (λ z. z.ending) q

settled_waits : (e : Ending) → Settled e ≢ Waits
settled_waits e q = cc

jumps_wait : (L : ℕ) → Jumps L ≢ Waits
jumps_wait L q = cc

module _ (K : ℕ → List Event → Ending → Type 0) (J : ℕ → ℕ → Type 0) where
  -- what the drafts say is known
  abbrev Known : List Draft → Type 0
  Known ds = (b : ℕ) (d : Draft) → slice_get ds b ≡ Some d → Tells K J b d.events d.ending

  before : (old new : List Draft) → Grown old new → Known new → Known old
  before old new g k b d e = k b d (g.same b d e)

  -- so is what they said before the head of a loop was filled
  before_filled : (ds : List Draft) (h t : ℕ) → slice_get ds h ≡ Some waiting → Known (filled ds h t) → Known ds
  before_filled ds h t w k b d e = told d.events d.ending e
    where
      set_other : (ds : List Draft) (h : ℕ) (x : Draft) (b : ℕ) (s : Draft) → b ≢ h → slice_get ds b ≡ Some s → slice_get (slice_set ds h x) b ≡ Some s
      set_other [] h x b s n e = e
      set_other (y ∷ ds) zero x zero s n e = absurd (n refl)
      set_other (y ∷ ds) zero x (suc b) s n e = e
      set_other (y ∷ ds) (suc h) x zero s n e = e
      set_other (y ∷ ds) (suc h) x (suc b) s n e = set_other ds h x b s (λ q. n (ap suc q)) e

      told : (es : List Event) (s : Sketch) → slice_get ds b ≡ Some (record { events = es; ending = s }) → Tells K J b es s
      told es (Settled e) q = k b (record { events = es; ending = Settled e }) (set_other ds h _ b _ (apart ds h b _ w q (settled_waits e)) q)
      told es (Jumps L) q = k b (record { events = es; ending = Jumps L }) (set_other ds h _ b _ (apart ds h b _ w q (jumps_wait L)) q)
      told es Waits q = tt

  before_test : (c : Option Form) (body next h : ℕ) (ds : List Draft) → slice_get ds h ≡ Some waiting → Known (test_blocks c body next h ds) → Known ds
  before_test None body next h ds w k = before_filled ds h body w k
  before_test (Some c) body next h ds w k =
      let t = form_blocks c (ToEither body next) ds in
      let g = form_grown c (ToEither body next) ds in
      before ds t.drafts g (before_filled t.drafts h t.block (g.same h waiting w) k)

  -- the block that was pushed last
  pushed : (ds : List Draft) (es : List Event) (e : Ending) → Known (push ds es (Settled e)).drafts → K (length ds) es e
  pushed ds es e k = k (length ds) (record { events = es; ending = Settled e }) (get_seam ds (record { events = es; ending = Settled e }))

  item_fits : (i : Item) (next : ℕ) (ds : List Draft) → Known (item_block i next ds).drafts → ItemAt K i next (item_block i next ds).block
  item_fits (EventMark e) next ds k = pushed ds (e ∷ []) (ToAny (next ∷ [])) k
  item_fits (CallMark site) next ds k = pushed ds [] (Calls site next) k

  splits : (n : Node) (way : Way) (ds : List Draft) → Known (split_blocks n way ds).drafts → Split K n way (split_blocks n way ds).block
  splits n (To x) ds k = refl
  splits n (ToEither y z) ds k =
      let t = lead ds (Branched n true ∷ []) y in
      let f = lead t.drafts (Branched n false ∷ []) z in
      let at_f = before f.drafts _ (push_grown f.drafts [] (Settled (ToAny (t.block ∷ f.block ∷ [])))) k in
      let at_t = before t.drafts f.drafts (push_grown t.drafts (Branched n false ∷ []) (Settled (ToAny (z ∷ [])))) at_f in
      (t.block, f.block, pushed ds _ _ at_t, pushed t.drafts _ _ at_f, pushed f.drafts _ _ k)

  mutual
    form_fits : (e : Form) (way : Way) (ds : List Draft) → Known (form_blocks e way ds).drafts → Fits K e way (form_blocks e way ds).block
    form_fits (Plain n r) way ds k =
        let v = split_blocks n way ds in
        (v.block, splits n way ds (before v.drafts _ (row_grown r v.block v.drafts) k), row_fits r v.block v.drafts k)
    form_fits (Inverts x r) (To v) ds k =
        let c = row_blocks r v ds in
        (c.block, row_fits r v ds (before c.drafts _ (form_grown x (To c.block) c.drafts) k), form_fits x (To c.block) c.drafts k)
    form_fits (Inverts x r) (ToEither y z) ds k = form_fits x (ToEither z y) ds k
    form_fits (Keeps x r) (To v) ds k =
        let c = row_blocks r v ds in
        (c.block, row_fits r v ds (before c.drafts _ (form_grown x (To c.block) c.drafts) k), form_fits x (To c.block) c.drafts k)
    form_fits (Keeps x r) (ToEither y z) ds k = form_fits x (ToEither y z) ds k
    form_fits (Both x y r) (To v) ds k =
        let c = row_blocks r v ds in
        let d = form_blocks y (ToEither c.block c.block) c.drafts in
        let at_d = before d.drafts _ (form_grown x (ToEither d.block c.block) d.drafts) k in
        let at_c = before c.drafts d.drafts (form_grown y (ToEither c.block c.block) c.drafts) at_d in
        (c.block, d.block, row_fits r v ds at_c, form_fits y (ToEither c.block c.block) c.drafts at_d, form_fits x (ToEither d.block c.block) d.drafts k)
    form_fits (Both x y r) (ToEither t f) ds k =
        let d = form_blocks y (ToEither t f) ds in
        (d.block, form_fits y (ToEither t f) ds (before d.drafts _ (form_grown x (ToEither d.block f) d.drafts) k), form_fits x (ToEither d.block f) d.drafts k)
    form_fits (Any x y r) (To v) ds k =
        let c = row_blocks r v ds in
        let d = form_blocks y (ToEither c.block c.block) c.drafts in
        let at_d = before d.drafts _ (form_grown x (ToEither c.block d.block) d.drafts) k in
        let at_c = before c.drafts d.drafts (form_grown y (ToEither c.block c.block) c.drafts) at_d in
        (c.block, d.block, row_fits r v ds at_c, form_fits y (ToEither c.block c.block) c.drafts at_d, form_fits x (ToEither c.block d.block) d.drafts k)
    form_fits (Any x y r) (ToEither t f) ds k =
        let d = form_blocks y (ToEither t f) ds in
        (d.block, form_fits y (ToEither t f) ds (before d.drafts _ (form_grown x (ToEither t d.block) d.drafts) k), form_fits x (ToEither t d.block) d.drafts k)
    form_fits (Chooses x y z r) (To v) ds k =
        let c = row_blocks r v ds in
        let d = form_blocks y (To c.block) c.drafts in
        let e = form_blocks z (To c.block) d.drafts in
        let at_e = before e.drafts _ (form_grown x (ToEither d.block e.block) e.drafts) k in
        let at_d = before d.drafts e.drafts (form_grown z (To c.block) d.drafts) at_e in
        let at_c = before c.drafts d.drafts (form_grown y (To c.block) c.drafts) at_d in
        (c.block, d.block, e.block, row_fits r v ds at_c, form_fits y (To c.block) c.drafts at_d, form_fits z (To c.block) d.drafts at_e, form_fits x (ToEither d.block e.block) e.drafts k)
    form_fits (Chooses x y z r) (ToEither t f) ds k =
        let d = form_blocks y (ToEither t f) ds in
        let e = form_blocks z (ToEither t f) d.drafts in
        let at_e = before e.drafts _ (form_grown x (ToEither d.block e.block) e.drafts) k in
        let at_d = before d.drafts e.drafts (form_grown z (ToEither t f) d.drafts) at_e in
        (d.block, e.block, form_fits y (ToEither t f) ds at_d, form_fits z (ToEither t f) d.drafts at_e, form_fits x (ToEither d.block e.block) e.drafts k)
    form_fits (Follows x y r) (To v) ds k =
        let c = row_blocks r v ds in
        let d = form_blocks y (To c.block) c.drafts in
        let at_d = before d.drafts _ (form_grown x (To d.block) d.drafts) k in
        let at_c = before c.drafts d.drafts (form_grown y (To c.block) c.drafts) at_d in
        (c.block, d.block, row_fits r v ds at_c, form_fits y (To c.block) c.drafts at_d, form_fits x (To d.block) d.drafts k)
    form_fits (Follows x y r) (ToEither t f) ds k =
        let d = form_blocks y (ToEither t f) ds in
        (d.block, form_fits y (ToEither t f) ds (before d.drafts _ (form_grown x (To d.block) d.drafts) k), form_fits x (To d.block) d.drafts k)

    row_fits : (r : Row) (v : ℕ) (ds : List Draft) → Known (row_blocks r v ds).drafts → FitsRow K r v (row_blocks r v ds).block
    row_fits done v ds k = refl
    row_fits (operand x r) v ds k =
        let c = row_blocks r v ds in
        (c.block, row_fits r v ds (before c.drafts _ (form_grown x (To c.block) c.drafts) k), form_fits x (To c.block) c.drafts k)
    row_fits (item i r) v ds k =
        let c = row_blocks r v ds in
        (c.block, row_fits r v ds (before c.drafts _ (item_grown i c.block c.drafts) k), item_fits i c.block c.drafts k)

  test_at : (c : Option Form) (body next h : ℕ) (ds : List Draft) → slice_get ds h ≡ Some waiting → Known (test_blocks c body next h ds) → TestAt K c body next h
  test_at None body next h ds w k = k h _ (set_here ds h _ waiting w)
  test_at (Some c) body next h ds w k =
      let t = form_blocks c (ToEither body next) ds in
      let waits = (form_grown c (ToEither body next) ds).same h waiting w in
      (t.block, k h _ (set_here t.drafts h _ waiting waits), form_fits c (ToEither body next) ds (before_filled t.drafts h t.block waits k))

  mutual
    flow_built : (s : Flow) (next brk cont : ℕ) (ds : List Draft) → (let m = flow_blocks s next brk cont ds in Known m.drafts → Built K J s next brk cont m.block m.cases m.labels)
    flow_built (Does r) next brk cont ds k = (row_fits r next ds k, refl, refl)
    flow_built (Block ss) next brk cont ds k = flows_built ss next brk cont ds k
    flow_built (If c s t) next brk cont ds k =
        let n = flow_blocks t next brk cont ds in
        let m = flow_blocks s next brk cont n.drafts in
        let at_m = before m.drafts _ (form_grown c (ToEither m.block n.block) m.drafts) k in
        let at_n = before n.drafts m.drafts (flow_grown s next brk cont n.drafts) at_m in
        (m.block, n.block, m.cases, n.cases, m.labels, n.labels, flow_built t next brk cont ds at_n, flow_built s next brk cont n.drafts at_m, form_fits c (ToEither m.block n.block) m.drafts k, refl, refl)
    flow_built (While c s) next brk cont ds k =
        let h = push ds [] Waits in
        let m = flow_blocks s h.block next h.block h.drafts in
        let waits = (flow_grown s h.block next h.block h.drafts).same h.block waiting (get_seam ds waiting) in
        (m.block, test_at (Some c) m.block next h.block m.drafts waits k, flow_built s h.block next h.block h.drafts (before_test (Some c) m.block next h.block m.drafts waits k))
    flow_built (Do s c) next brk cont ds k =
        let h = push ds [] Waits in
        let m = flow_blocks s h.block next h.block h.drafts in
        let waits = (flow_grown s h.block next h.block h.drafts).same h.block waiting (get_seam ds waiting) in
        (h.block, test_at (Some c) m.block next h.block m.drafts waits k, flow_built s h.block next h.block h.drafts (before_test (Some c) m.block next h.block m.drafts waits k))
    flow_built (For i c u s) next brk cont ds k =
        let h = push ds [] Waits in
        let t = row_blocks u h.block h.drafts in
        let m = flow_blocks s t.block next t.block t.drafts in
        let tested = test_blocks c m.block next h.block m.drafts in
        let body_grown = flow_grown s t.block next t.block t.drafts in
        let waits = (grown_then h.drafts t.drafts m.drafts (row_grown u h.block h.drafts) body_grown).same h.block waiting (get_seam ds waiting) in
        let at_test = before tested _ (row_grown i h.block tested) k in
        let at_m = before_test c m.block next h.block m.drafts waits at_test in
        (h.block, t.block, m.block, row_fits i h.block tested k, row_fits u h.block h.drafts (before t.drafts m.drafts body_grown at_m), test_at c m.block next h.block m.drafts waits at_test, flow_built s t.block next t.block t.drafts at_m)
    flow_built (Switch r s) next brk cont ds k =
        let m = flow_blocks s next next cont ds in
        let targets = m.cases ++ if_so (not (has_default s)) next in
        let v = push m.drafts [] (Settled (ToAny targets)) in
        let at_v = before v.drafts _ (row_grown r v.block v.drafts) k in
        let at_m = before m.drafts v.drafts (push_grown m.drafts [] (Settled (ToAny targets))) at_v in
        (v.block, m.block, m.cases, targets, row_fits r v.block v.drafts k, pushed m.drafts [] (ToAny targets) at_v, flow_built s next next cont ds at_m, refl, refl)
    flow_built (Case s) next brk cont ds k = ((flow_blocks s next brk cont ds).cases, flow_built s next brk cont ds k, refl)
    flow_built (Default s) next brk cont ds k = ((flow_blocks s next brk cont ds).cases, flow_built s next brk cont ds k, refl)
    flow_built (Label L s) next brk cont ds k = ((flow_blocks s next brk cont ds).labels, flow_built s next brk cont ds k, refl)
    flow_built (Goto L) next brk cont ds k = (k (length ds) (record { events = []; ending = Jumps L }) (get_seam ds (record { events = []; ending = Jumps L })) refl, refl, refl)
    flow_built Break next brk cont ds k = (refl, refl, refl)
    flow_built Continue next brk cont ds k = (refl, refl, refl)
    flow_built (Return r e) next brk cont ds k =
        let x = push ds (e ∷ []) (Settled Stops) in
        (x.block, pushed ds (e ∷ []) Stops (before x.drafts _ (row_grown r x.block x.drafts) k), row_fits r x.block x.drafts k, refl, refl)

    flows_built : (ss : Flows) (next brk cont : ℕ) (ds : List Draft) → (let m = flows_blocks ss next brk cont ds in Known m.drafts → BuiltIn K J ss next brk cont m.block m.cases m.labels)
    flows_built no_flows next brk cont ds k = (refl, refl, refl)
    flows_built (flows s ss) next brk cont ds k =
        let n = flows_blocks ss next brk cont ds in
        let m = flow_blocks s n.block brk cont n.drafts in
        (n.block, m.cases, n.cases, m.labels, n.labels, flows_built ss next brk cont ds (before n.drafts m.drafts (flow_grown s n.block brk cont n.drafts) k), flow_built s n.block brk cont n.drafts k, refl, refl)

-- the blocks of a label are those that the list gives it
if_so_here : (b : Bool) (c x : ℕ) → b ≡ true → c ≡ x → Among c (if_so b x)
if_so_here true c x e q = inl q
if_so_here false c x e q = let bad : false ≡ true = e in cc

here_if_so : (b : Bool) (c x : ℕ) → Among c (if_so b x) → (b ≡ true) × (c ≡ x)
here_if_so true c x (inl e) = (refl, e)
here_if_so true c x (inr y) = absurd y
here_if_so false c x y = absurd y

labelled : (L c : ℕ) (ps : List Entry) → HasEntry L c ps → Among c (label_blocks L ps)
labelled L c [] h = h
labelled L c (p ∷ ps) (inl h) = among_front c (if_so (p.label == L) p.block) (label_blocks L ps) (if_so_here (p.label == L) c p.block (eq-eqb p.label L h.0) (sym h.1))
labelled L c (p ∷ ps) (inr h) = among_back c (if_so (p.label == L) p.block) (label_blocks L ps) (labelled L c ps h)

of_label : (L c : ℕ) (ps : List Entry) → Among c (label_blocks L ps) → HasEntry L c ps
of_label L c [] h = h
of_label L c (p ∷ ps) h = elim (among_either c (if_so (p.label == L) p.block) (label_blocks L ps) h) [
  | inl a ↦ let b = here_if_so (p.label == L) c p.block a in inl (eqb-true p.label L b.0, sym b.1)
  | inr a ↦ inr (of_label L c ps a)
]

settled_get : (ps : List Entry) (ds : List Draft) (b : ℕ) (d : Draft) → slice_get ds b ≡ Some d → slice_get (map (settled ps) ds) b ≡ Some (settled ps d)
settled_get ps ds b d e = slice_get-map (settled ps) ds b ∙ ap (λ o. elim o [ None ↦ None | Some x ↦ Some (settled ps x) ]) e

-- the settled drafts are the blocks
settled_known : (ps : List Entry) (ds : List Draft) → Known (Has (map (settled ps) ds)) (GotoAt (map (settled ps) ds) ps) ds
settled_known ps ds b d e = told d.events d.ending e
  where
    told : (es : List Event) (s : Sketch) → slice_get ds b ≡ Some (record { events = es; ending = s }) → Tells (Has (map (settled ps) ds)) (GotoAt (map (settled ps) ds) ps) b es s
    told es (Settled end) q = settled_get ps ds b _ q
    told es (Jumps L) q = λ n. (label_blocks L ps, settled_get ps ds b _ q ∙ ap (λ x. Some (record { events = x; ending = ToAny (label_blocks L ps) })) n, (λ c a. of_label L c ps a), (λ c a. labelled L c ps a))
    told es Waits q = tt

pub built_graph : (body : Flow) (exit : Event) → (let g = body_graph body exit in IsGraphOf g.blocks body exit g.entry)
built_graph body exit =
    let dead = push [] [] (Settled (ToAny [])) in
    let last = push dead.drafts (exit ∷ []) (Settled Stops) in
    let m = flow_blocks body last.block dead.block dead.block last.drafts in
    let grown = flow_grown body last.block dead.block dead.block last.drafts in
    record {
      last = last.block;
      dead = dead.block;
      cases = m.cases;
      labels = m.labels;
      built = flow_built (Has (body_graph body exit).blocks) (GotoAt (body_graph body exit).blocks m.labels) body last.block dead.block dead.block last.drafts (settled_known m.labels m.drafts);
      at_last = settled_get m.labels m.drafts last.block _ (grown.same last.block _ refl);
      at_dead = settled_get m.labels m.drafts dead.block _ (grown.same dead.block _ refl);
    }

pub built_traces : (F : Facts) (d : Definition) (l : List Item) → (let g = graph_of F d in Trace F d l ↔ GraphTrace g.blocks g.entry l)
built_traces F d l =
    let body = flow_of F d.place d.body in
    let exit = Exited d.place d.close in
    let g = graph_of F d in
    graph_traces g.blocks body exit g.entry (built_graph body exit) l
