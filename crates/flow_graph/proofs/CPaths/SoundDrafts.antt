-- The graphs that the plain builder makes are sound.
use Rattle.std.proofs.Common.{◌≡◌, ℕ, zero, suc, ◌<◌, ◌≤◌, Bool, true, false, List, [], ◌∷◌, ◌++◌, Option, None, Some, refl, sym, ap, subst, length, get_or, arith, length-append}
use Rattle.std.specs.Prelude.{slice_set, not, map, ◌==◌}
use Rattle.std.proofs.lemmas.Option.{slice_get_within, slice_get-get_or}
use Rattle.c_tree.specs.Node.{Node}
use Rattle.path_theory.specs.Marks.{EventMark, CallMark}
use Rattle.flow_graph.specs.CPaths.Events.{Event, Item, Branched, Exited}
use Rattle.flow_graph.specs.CPaths.Facts.{Facts}
use Rattle.flow_graph.specs.CPaths.Forms.{Form, Plain, Inverts, Keeps, Both, Any, Chooses, Follows, Row, done, operand, item}
use Rattle.flow_graph.specs.CPaths.Flow.{Flow, Does, Block, If, While, Do, For, Switch, Case, Default, Label, Goto, Break, Continue, Return, Flows, no_flows, flows}
use Rattle.flow_graph.specs.CPaths.TreeFlow.{flow_of}
use Rattle.flow_graph.specs.CPaths.Traces.{Definition}
use Rattle.flow_graph.specs.CPaths.Labels.{if_so, has_default}
use Rattle.flow_graph.specs.CPaths.Exits.{is_exit, NoExits, IsInnerForm, IsInnerRow, IsInnerMaybe, ExitsLast, ExitsLastIn}
use Rattle.flow_graph.specs.CPaths.Graphs.{ToAny, Calls, Stops}
use Rattle.flow_graph.specs.CPaths.SoundGraphs.{AllBelow, IsSoundEnd, AreSound, IsSoundGraph}
use Rattle.flow_graph.specs.CPaths.Fragments.{Way, To, ToEither}
use Rattle.flow_graph.specs.CPaths.Layout.{Entry}
use Rattle.flow_graph.specs.CPaths.Building.{Sketch, Settled, Jumps, Waits, Draft, Made, push, lead, filled, item_block, split_blocks, form_blocks, row_blocks, test_blocks, Placed, flow_blocks, flows_blocks, label_blocks, settled_ending, settled, body_graph, graph_of}
use Rattle.flow_graph.proofs.CPaths.DraftGrowth.{Grown, push_grown, item_grown, form_grown, row_grown, flow_grown}
use Rattle.flow_graph.proofs.CPaths.TreeExits.{flow_exits_last}

grown_longer : (x y : List Draft) → Grown x y → length x ≤ length y
grown_longer [] y g = omega arith
grown_longer (d ∷ ds) y g =
    let l : length ds < length (d ∷ ds) = omega arith in
    slice_get_within y (length ds) (get_or (d ∷ ds) (length ds) d) (g.same (length ds) _ (slice_get-get_or (d ∷ ds) (length ds) d l))

set_length : (ds : List Draft) (h : ℕ) (d : Draft) → length (slice_set ds h d) ≡ length ds
set_length [] h d = refl
set_length (x ∷ ds) zero d = refl
set_length (x ∷ ds) (suc h) d = ap suc (set_length ds h d)

below_append : (n : ℕ) (xs ys : List ℕ) → AllBelow n xs → AllBelow n ys → AllBelow n (xs ++ ys)
below_append n [] ys h k = k
below_append n (x ∷ xs) ys h k = (h.0, below_append n xs ys h.1 k)

abbrev EntriesBelow : ℕ → List Entry → Type 0
EntriesBelow n [] = Unit {0}
EntriesBelow n (p ∷ ps) = (p.block < n) × EntriesBelow n ps

entries_append : (n : ℕ) (xs ys : List Entry) → EntriesBelow n xs → EntriesBelow n ys → EntriesBelow n (xs ++ ys)
entries_append n [] ys h k = k
entries_append n (x ∷ xs) ys h k = (h.0, entries_append n xs ys h.1 k)

if_so_below : (n : ℕ) (b : Bool) (x : ℕ) → x < n → AllBelow n (if_so b x)
if_so_below n true x h = (h, tt)
if_so_below n false x h = tt

label_below : (n L : ℕ) (ps : List Entry) → EntriesBelow n ps → AllBelow n (label_blocks L ps)
label_below n L [] h = tt
label_below n L (p ∷ ps) h = below_append n (if_so (p.label == L) p.block) (label_blocks L ps) (if_so_below n (p.label == L) p.block h.0) (label_below n L ps h.1)

-- N is the number of all blocks
module _ (N : ℕ) where
  abbrev IsSoundSketch : List Event → Sketch → Type 0
  IsSoundSketch es (Settled e) = IsSoundEnd N es e
  IsSoundSketch es (Jumps L) = NoExits es
  IsSoundSketch es Waits = NoExits es

  abbrev SoundDrafts : List Draft → Type 0
  SoundDrafts [] = Unit {0}
  SoundDrafts (d ∷ ds) = IsSoundSketch d.events d.ending × SoundDrafts ds

  abbrev WayBelow : Way → Type 0
  WayBelow (To x) = x < N
  WayBelow (ToEither y z) = (y < N) × (z < N)

  record Fine (m : Made) : Type 0 where
    drafts : SoundDrafts m.drafts
    block : m.block < N

  record FineFlow (m : Placed) : Type 0 where
    drafts : SoundDrafts m.drafts
    block : m.block < N
    cases : AllBelow N m.cases
    labels : EntriesBelow N m.labels

  room : (x y : List Draft) → Grown x y → length y ≤ N → length x ≤ N
  room x y g r = let l = grown_longer x y g in omega (arith, l, r)

  one_more : (ds : List Draft) (d : Draft) → SoundDrafts ds → IsSoundSketch d.events d.ending → SoundDrafts (ds ++ d ∷ [])
  one_more [] d s h = (h, tt)
  one_more (x ∷ ds) d s h = (s.0, one_more ds d s.1 h)

  push_fine : (ds : List Draft) (es : List Event) (e : Sketch) → SoundDrafts ds → IsSoundSketch es e → length (push ds es e).drafts ≤ N → Fine (push ds es e)
  push_fine ds es e s h r =
      let l = length-append ds (record { events = es; ending = e } ∷ []) in
      record { drafts = one_more ds (record { events = es; ending = e }) s h; block = omega (arith, l, r) }

  filled_sound : (ds : List Draft) (h t : ℕ) → SoundDrafts ds → t < N → SoundDrafts (filled ds h t)
  filled_sound [] h t s l = s
  filled_sound (x ∷ ds) zero t s l = ((tt, (l, tt)), s.1)
  filled_sound (x ∷ ds) (suc h) t s l = (s.0, filled_sound ds h t s.1 l)

  item_fine : (i : Item) (next : ℕ) (ds : List Draft) → is_exit i ≡ false → next < N → SoundDrafts ds → length (item_block i next ds).drafts ≤ N → Fine (item_block i next ds)
  item_fine (EventMark e) next ds i l s r = push_fine ds (e ∷ []) (Settled (ToAny (next ∷ []))) s ((i, tt), (l, tt)) r
  item_fine (CallMark site) next ds i l s r = push_fine ds [] (Settled (Calls site next)) s (tt, l) r

  split_fine : (n : Node) (way : Way) (ds : List Draft) → WayBelow way → SoundDrafts ds → length (split_blocks n way ds).drafts ≤ N → Fine (split_blocks n way ds)
  split_fine n (To x) ds l s r = record { drafts = s; block = l }
  split_fine n (ToEither y z) ds l s r =
      let t = lead ds (Branched n true ∷ []) y in
      let f = lead t.drafts (Branched n false ∷ []) z in
      let at_f = room f.drafts _ (push_grown f.drafts [] (Settled (ToAny (t.block ∷ f.block ∷ [])))) r in
      let at_t = room t.drafts f.drafts (push_grown t.drafts (Branched n false ∷ []) (Settled (ToAny (z ∷ [])))) at_f in
      let fine_t = push_fine ds (Branched n true ∷ []) (Settled (ToAny (y ∷ []))) s ((refl, tt), (l.0, tt)) at_t in
      let fine_f = push_fine t.drafts (Branched n false ∷ []) (Settled (ToAny (z ∷ []))) fine_t.drafts ((refl, tt), (l.1, tt)) at_f in
      push_fine f.drafts [] (Settled (ToAny (t.block ∷ f.block ∷ []))) fine_f.drafts (tt, (fine_t.block, (fine_f.block, tt))) r

  mutual
    form_fine : (e : Form) (way : Way) (ds : List Draft) → IsInnerForm e → WayBelow way → SoundDrafts ds → length (form_blocks e way ds).drafts ≤ N → Fine (form_blocks e way ds)
    form_fine (Plain n p) way ds i l s r =
        let v = split_blocks n way ds in
        let fine = split_fine n way ds l s (room v.drafts _ (row_grown p v.block v.drafts) r) in
        row_fine p v.block v.drafts i fine.block fine.drafts r
    form_fine (Inverts x p) (To v) ds i l s r =
        let c = row_blocks p v ds in
        let fine = row_fine p v ds i.1 l s (room c.drafts _ (form_grown x (To c.block) c.drafts) r) in
        form_fine x (To c.block) c.drafts i.0 fine.block fine.drafts r
    form_fine (Inverts x p) (ToEither y z) ds i l s r = form_fine x (ToEither z y) ds i.0 (l.1, l.0) s r
    form_fine (Keeps x p) (To v) ds i l s r =
        let c = row_blocks p v ds in
        let fine = row_fine p v ds i.1 l s (room c.drafts _ (form_grown x (To c.block) c.drafts) r) in
        form_fine x (To c.block) c.drafts i.0 fine.block fine.drafts r
    form_fine (Keeps x p) (ToEither y z) ds i l s r = form_fine x (ToEither y z) ds i.0 l s r
    form_fine (Both x y p) (To v) ds i l s r =
        let c = row_blocks p v ds in
        let d = form_blocks y (ToEither c.block c.block) c.drafts in
        let at_d = room d.drafts _ (form_grown x (ToEither d.block c.block) d.drafts) r in
        let fine_c = row_fine p v ds i.2 l s (room c.drafts d.drafts (form_grown y (ToEither c.block c.block) c.drafts) at_d) in
        let fine_d = form_fine y (ToEither c.block c.block) c.drafts i.1 (fine_c.block, fine_c.block) fine_c.drafts at_d in
        form_fine x (ToEither d.block c.block) d.drafts i.0 (fine_d.block, fine_c.block) fine_d.drafts r
    form_fine (Both x y p) (ToEither t f) ds i l s r =
        let d = form_blocks y (ToEither t f) ds in
        let fine = form_fine y (ToEither t f) ds i.1 l s (room d.drafts _ (form_grown x (ToEither d.block f) d.drafts) r) in
        form_fine x (ToEither d.block f) d.drafts i.0 (fine.block, l.1) fine.drafts r
    form_fine (Any x y p) (To v) ds i l s r =
        let c = row_blocks p v ds in
        let d = form_blocks y (ToEither c.block c.block) c.drafts in
        let at_d = room d.drafts _ (form_grown x (ToEither c.block d.block) d.drafts) r in
        let fine_c = row_fine p v ds i.2 l s (room c.drafts d.drafts (form_grown y (ToEither c.block c.block) c.drafts) at_d) in
        let fine_d = form_fine y (ToEither c.block c.block) c.drafts i.1 (fine_c.block, fine_c.block) fine_c.drafts at_d in
        form_fine x (ToEither c.block d.block) d.drafts i.0 (fine_c.block, fine_d.block) fine_d.drafts r
    form_fine (Any x y p) (ToEither t f) ds i l s r =
        let d = form_blocks y (ToEither t f) ds in
        let fine = form_fine y (ToEither t f) ds i.1 l s (room d.drafts _ (form_grown x (ToEither t d.block) d.drafts) r) in
        form_fine x (ToEither t d.block) d.drafts i.0 (l.0, fine.block) fine.drafts r
    form_fine (Chooses x y z p) (To v) ds i l s r =
        let c = row_blocks p v ds in
        let d = form_blocks y (To c.block) c.drafts in
        let e = form_blocks z (To c.block) d.drafts in
        let at_e = room e.drafts _ (form_grown x (ToEither d.block e.block) e.drafts) r in
        let at_d = room d.drafts e.drafts (form_grown z (To c.block) d.drafts) at_e in
        let fine_c = row_fine p v ds i.3 l s (room c.drafts d.drafts (form_grown y (To c.block) c.drafts) at_d) in
        let fine_d = form_fine y (To c.block) c.drafts i.1 fine_c.block fine_c.drafts at_d in
        let fine_e = form_fine z (To c.block) d.drafts i.2 fine_c.block fine_d.drafts at_e in
        form_fine x (ToEither d.block e.block) e.drafts i.0 (fine_d.block, fine_e.block) fine_e.drafts r
    form_fine (Chooses x y z p) (ToEither t f) ds i l s r =
        let d = form_blocks y (ToEither t f) ds in
        let e = form_blocks z (ToEither t f) d.drafts in
        let at_e = room e.drafts _ (form_grown x (ToEither d.block e.block) e.drafts) r in
        let fine_d = form_fine y (ToEither t f) ds i.1 l s (room d.drafts e.drafts (form_grown z (ToEither t f) d.drafts) at_e) in
        let fine_e = form_fine z (ToEither t f) d.drafts i.2 l fine_d.drafts at_e in
        form_fine x (ToEither d.block e.block) e.drafts i.0 (fine_d.block, fine_e.block) fine_e.drafts r
    form_fine (Follows x y p) (To v) ds i l s r =
        let c = row_blocks p v ds in
        let d = form_blocks y (To c.block) c.drafts in
        let at_d = room d.drafts _ (form_grown x (To d.block) d.drafts) r in
        let fine_c = row_fine p v ds i.2 l s (room c.drafts d.drafts (form_grown y (To c.block) c.drafts) at_d) in
        let fine_d = form_fine y (To c.block) c.drafts i.1 fine_c.block fine_c.drafts at_d in
        form_fine x (To d.block) d.drafts i.0 fine_d.block fine_d.drafts r
    form_fine (Follows x y p) (ToEither t f) ds i l s r =
        let d = form_blocks y (ToEither t f) ds in
        let fine = form_fine y (ToEither t f) ds i.1 l s (room d.drafts _ (form_grown x (To d.block) d.drafts) r) in
        form_fine x (To d.block) d.drafts i.0 fine.block fine.drafts r

    row_fine : (p : Row) (v : ℕ) (ds : List Draft) → IsInnerRow p → v < N → SoundDrafts ds → length (row_blocks p v ds).drafts ≤ N → Fine (row_blocks p v ds)
    row_fine done v ds i l s r = record { drafts = s; block = l }
    row_fine (operand x p) v ds i l s r =
        let c = row_blocks p v ds in
        let fine = row_fine p v ds i.1 l s (room c.drafts _ (form_grown x (To c.block) c.drafts) r) in
        form_fine x (To c.block) c.drafts i.0 fine.block fine.drafts r
    row_fine (item j p) v ds i l s r =
        let c = row_blocks p v ds in
        let fine = row_fine p v ds i.1 l s (room c.drafts _ (item_grown j c.block c.drafts) r) in
        item_fine j c.block c.drafts i.0 fine.block fine.drafts r

  filled_room : (ds : List Draft) (h t : ℕ) → length (filled ds h t) ≤ N → length ds ≤ N
  filled_room ds h t r = let l = set_length ds h (record { events = []; ending = Settled (ToAny (t ∷ [])) }) in omega (arith, l, r)

  test_room : (c : Option Form) (body next h : ℕ) (ds : List Draft) → length (test_blocks c body next h ds) ≤ N → length ds ≤ N
  test_room None body next h ds r = filled_room ds h body r
  test_room (Some c) body next h ds r =
      let t = form_blocks c (ToEither body next) ds in
      room ds t.drafts (form_grown c (ToEither body next) ds) (filled_room t.drafts h t.block r)

  test_sound : (c : Option Form) (body next h : ℕ) (ds : List Draft) → IsInnerMaybe c → body < N → next < N → SoundDrafts ds → length (test_blocks c body next h ds) ≤ N → SoundDrafts (test_blocks c body next h ds)
  test_sound None body next h ds i lb ln s r = filled_sound ds h body s lb
  test_sound (Some c) body next h ds i lb ln s r =
      let t = form_blocks c (ToEither body next) ds in
      let fine = form_fine c (ToEither body next) ds i (lb, ln) s (filled_room t.drafts h t.block r) in
      filled_sound t.drafts h t.block fine.drafts fine.block

  simply : (m : Made) → Fine m → FineFlow (record { drafts = m.drafts; block = m.block; cases = []; labels = [] })
  simply m f = record { drafts = f.drafts; block = f.block; cases = tt; labels = tt }

  mutual
    flow_fine : (s : Flow) (next brk cont : ℕ) (ds : List Draft) → ExitsLast s → next < N → brk < N → cont < N → SoundDrafts ds → length (flow_blocks s next brk cont ds).drafts ≤ N → FineFlow (flow_blocks s next brk cont ds)
    flow_fine (Does p) next brk cont ds i ln lb lc s r = simply (row_blocks p next ds) (row_fine p next ds i ln s r)
    flow_fine (Block ss) next brk cont ds i ln lb lc s r = flows_fine ss next brk cont ds i ln lb lc s r
    flow_fine (If c x y) next brk cont ds i ln lb lc s r =
        let n = flow_blocks y next brk cont ds in
        let m = flow_blocks x next brk cont n.drafts in
        let at_m = room m.drafts _ (form_grown c (ToEither m.block n.block) m.drafts) r in
        let fine_n = flow_fine y next brk cont ds i.2 ln lb lc s (room n.drafts m.drafts (flow_grown x next brk cont n.drafts) at_m) in
        let fine_m = flow_fine x next brk cont n.drafts i.1 ln lb lc fine_n.drafts at_m in
        let fine = form_fine c (ToEither m.block n.block) m.drafts i.0 (fine_m.block, fine_n.block) fine_m.drafts r in
        record { drafts = fine.drafts; block = fine.block; cases = below_append N n.cases m.cases fine_n.cases fine_m.cases; labels = entries_append N n.labels m.labels fine_n.labels fine_m.labels }
    flow_fine (While c x) next brk cont ds i ln lb lc s r =
        let h = push ds [] Waits in
        let m = flow_blocks x h.block next h.block h.drafts in
        let at_m = test_room (Some c) m.block next h.block m.drafts r in
        let fine_h = push_fine ds [] Waits s tt (room h.drafts m.drafts (flow_grown x h.block next h.block h.drafts) at_m) in
        let fine_m = flow_fine x h.block next h.block h.drafts i.1 fine_h.block ln fine_h.block fine_h.drafts at_m in
        record { drafts = test_sound (Some c) m.block next h.block m.drafts i.0 fine_m.block ln fine_m.drafts r; block = fine_h.block; cases = fine_m.cases; labels = fine_m.labels }
    flow_fine (Do x c) next brk cont ds i ln lb lc s r =
        let h = push ds [] Waits in
        let m = flow_blocks x h.block next h.block h.drafts in
        let at_m = test_room (Some c) m.block next h.block m.drafts r in
        let fine_h = push_fine ds [] Waits s tt (room h.drafts m.drafts (flow_grown x h.block next h.block h.drafts) at_m) in
        let fine_m = flow_fine x h.block next h.block h.drafts i.0 fine_h.block ln fine_h.block fine_h.drafts at_m in
        record { drafts = test_sound (Some c) m.block next h.block m.drafts i.1 fine_m.block ln fine_m.drafts r; block = fine_m.block; cases = fine_m.cases; labels = fine_m.labels }
    flow_fine (For p c u x) next brk cont ds i ln lb lc s r =
        let h = push ds [] Waits in
        let t = row_blocks u h.block h.drafts in
        let m = flow_blocks x t.block next t.block t.drafts in
        let tested = test_blocks c m.block next h.block m.drafts in
        let at_test = room tested _ (row_grown p h.block tested) r in
        let at_m = test_room c m.block next h.block m.drafts at_test in
        let at_t = room t.drafts m.drafts (flow_grown x t.block next t.block t.drafts) at_m in
        let fine_h = push_fine ds [] Waits s tt (room h.drafts t.drafts (row_grown u h.block h.drafts) at_t) in
        let fine_t = row_fine u h.block h.drafts i.2 fine_h.block fine_h.drafts at_t in
        let fine_m = flow_fine x t.block next t.block t.drafts i.3 fine_t.block ln fine_t.block fine_t.drafts at_m in
        let fine = row_fine p h.block tested i.0 fine_h.block (test_sound c m.block next h.block m.drafts i.1 fine_m.block ln fine_m.drafts at_test) r in
        record { drafts = fine.drafts; block = fine.block; cases = fine_m.cases; labels = fine_m.labels }
    flow_fine (Switch p x) next brk cont ds i ln lb lc s r =
        let m = flow_blocks x next next cont ds in
        let targets = m.cases ++ if_so (not (has_default x)) next in
        let v = push m.drafts [] (Settled (ToAny targets)) in
        let at_v = room v.drafts _ (row_grown p v.block v.drafts) r in
        let fine_m = flow_fine x next next cont ds i.1 ln ln lc s (room m.drafts v.drafts (push_grown m.drafts [] (Settled (ToAny targets))) at_v) in
        let fine_v = push_fine m.drafts [] (Settled (ToAny targets)) fine_m.drafts (tt, below_append N m.cases (if_so (not (has_default x)) next) fine_m.cases (if_so_below N (not (has_default x)) next ln)) at_v in
        let fine = row_fine p v.block v.drafts i.0 fine_v.block fine_v.drafts r in
        record { drafts = fine.drafts; block = fine.block; cases = tt; labels = fine_m.labels }
    flow_fine (Case x) next brk cont ds i ln lb lc s r =
        let m = flow_fine x next brk cont ds i ln lb lc s r in
        record { drafts = m.drafts; block = m.block; cases = below_append N (flow_blocks x next brk cont ds).cases _ m.cases (m.block, tt); labels = m.labels }
    flow_fine (Default x) next brk cont ds i ln lb lc s r =
        let m = flow_fine x next brk cont ds i ln lb lc s r in
        record { drafts = m.drafts; block = m.block; cases = below_append N (flow_blocks x next brk cont ds).cases _ m.cases (m.block, tt); labels = m.labels }
    flow_fine (Label L x) next brk cont ds i ln lb lc s r =
        let m = flow_fine x next brk cont ds i ln lb lc s r in
        record { drafts = m.drafts; block = m.block; cases = m.cases; labels = entries_append N (flow_blocks x next brk cont ds).labels (record { label = L; block = (flow_blocks x next brk cont ds).block } ∷ []) m.labels (m.block, tt) }
    flow_fine (Goto L) next brk cont ds i ln lb lc s r = simply (push ds [] (Jumps L)) (push_fine ds [] (Jumps L) s tt r)
    flow_fine Break next brk cont ds i ln lb lc s r = record { drafts = s; block = lb; cases = tt; labels = tt }
    flow_fine Continue next brk cont ds i ln lb lc s r = record { drafts = s; block = lc; cases = tt; labels = tt }
    flow_fine (Return p e) next brk cont ds i ln lb lc s r =
        let x = push ds (e ∷ []) (Settled Stops) in
        let fine = push_fine ds (e ∷ []) (Settled Stops) s (e, i.1, refl) (room x.drafts _ (row_grown p x.block x.drafts) r) in
        simply (row_blocks p x.block x.drafts) (row_fine p x.block x.drafts i.0 fine.block fine.drafts r)

    flows_fine : (ss : Flows) (next brk cont : ℕ) (ds : List Draft) → ExitsLastIn ss → next < N → brk < N → cont < N → SoundDrafts ds → length (flows_blocks ss next brk cont ds).drafts ≤ N → FineFlow (flows_blocks ss next brk cont ds)
    flows_fine no_flows next brk cont ds i ln lb lc s r = record { drafts = s; block = ln; cases = tt; labels = tt }
    flows_fine (flows x ss) next brk cont ds i ln lb lc s r =
        let n = flows_blocks ss next brk cont ds in
        let m = flow_blocks x n.block brk cont n.drafts in
        let fine_n = flows_fine ss next brk cont ds i.1 ln lb lc s (room n.drafts m.drafts (flow_grown x n.block brk cont n.drafts) r) in
        let fine_m = flow_fine x n.block brk cont n.drafts i.0 fine_n.block lb lc fine_n.drafts r in
        record { drafts = fine_m.drafts; block = fine_m.block; cases = below_append N n.cases m.cases fine_n.cases fine_m.cases; labels = entries_append N n.labels m.labels fine_n.labels fine_m.labels }

  settled_sound : (ps : List Entry) (ds : List Draft) → EntriesBelow N ps → SoundDrafts ds → AreSound N (map (settled ps) ds)
  settled_sound ps [] l s = tt
  settled_sound ps (d ∷ ds) l s = (ended d.events d.ending s.0, settled_sound ps ds l s.1)
    where
      ended : (es : List Event) (e : Sketch) → IsSoundSketch es e → IsSoundEnd N es (settled_ending ps e)
      ended es (Settled e) h = h
      ended es (Jumps L) h = (h, label_below N L ps l)
      ended es Waits h = (h, tt)

length_settled : (ps : List Entry) (ds : List Draft) → length (map (settled ps) ds) ≡ length ds
length_settled ps [] = refl
length_settled ps (d ∷ ds) = ap suc (length_settled ps ds)

pub body_graph_sound : (body : Flow) (exit : Event) → ExitsLast body → is_exit (EventMark exit) ≡ true → (let g = body_graph body exit in IsSoundGraph g.blocks g.entry)
body_graph_sound body exit i x =
    let dead = push [] [] (Settled (ToAny [])) in
    let last = push dead.drafts (exit ∷ []) (Settled Stops) in
    let m = flow_blocks body last.block dead.block dead.block last.drafts in
    let longer = grown_longer last.drafts m.drafts (flow_grown body last.block dead.block dead.block last.drafts) in
    let first : 0 < length m.drafts = omega (arith, longer) in
    let second : 1 < length m.drafts = omega (arith, longer) in
    let fine = flow_fine (length m.drafts) body last.block dead.block dead.block last.drafts i second first first ((tt, tt), ((exit, x, refl), tt)) (omega arith) in
    let same = length_settled m.labels m.drafts in (
      subst (λ n. AreSound n (map (settled m.labels) m.drafts)) (sym same) (settled_sound (length m.drafts) m.labels m.drafts fine.labels fine.drafts),
      subst (λ n. m.block < n) (sym same) fine.block,
    )

pub built_graph_sound : (F : Facts) (d : Definition) → IsSoundGraph (graph_of F d).blocks (graph_of F d).entry
built_graph_sound F d = body_graph_sound (flow_of F d.place d.body) (Exited d.place d.close) (flow_exits_last F d.place d.body) refl
