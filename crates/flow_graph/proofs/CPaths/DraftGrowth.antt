-- The drafts of a graph grow: old ones stay as they were, but for the heads of loops that are filled.
use Rattle.std.proofs.Common.{◌≡◌, ◌≢◌, ℕ, zero, suc, ◌<◌, List, [], ◌∷◌, ◌++◌, Option, None, Some, refl, ap, length, arith}
use Rattle.std.specs.Prelude.{slice_get, slice_set, true, false, not}
use Rattle.std.proofs.lemmas.Option.{slice_get_within}
use Rattle.c_tree.specs.Node.{Node}
use Rattle.path_theory.specs.Marks.{EventMark, CallMark}
use Rattle.flow_graph.specs.CPaths.Events.{Event, Item, Branched}
use Rattle.flow_graph.specs.CPaths.Forms.{Form, Plain, Inverts, Keeps, Both, Any, Chooses, Follows, Row, done, operand, item}
use Rattle.flow_graph.specs.CPaths.Flow.{Flow, Does, Block, If, While, Do, For, Switch, Case, Default, Label, Goto, Break, Continue, Return, Flows, no_flows, flows}
use Rattle.flow_graph.specs.CPaths.Labels.{if_so, has_default}
use Rattle.flow_graph.specs.CPaths.Graphs.{ToAny, Calls, Stops}
use Rattle.flow_graph.specs.CPaths.Fragments.{Way, To, ToEither}
use Rattle.flow_graph.specs.CPaths.Building.{Sketch, Settled, Jumps, Waits, Draft, push, lead, filled, item_block, split_blocks, form_blocks, row_blocks, test_blocks, flow_blocks, flows_blocks}

pub get_front : (xs ys : List Draft) (b : ℕ) (d : Draft) → slice_get xs b ≡ Some d → slice_get (xs ++ ys) b ≡ Some d
get_front [] ys b d e = cc
get_front (x ∷ xs) ys zero d e = e
get_front (x ∷ xs) ys (suc b) d e = get_front xs ys b d e

pub get_seam : (xs : List Draft) (d : Draft) → slice_get (xs ++ d ∷ []) (length xs) ≡ Some d
get_seam [] d = refl
get_seam (x ∷ xs) d = get_seam xs d

set_other : (ds : List Draft) (h : ℕ) (d : Draft) (b : ℕ) (s : Draft) → b ≢ h → slice_get ds b ≡ Some s → slice_get (slice_set ds h d) b ≡ Some s
set_other [] h d b s n e = e
set_other (x ∷ ds) zero d zero s n e = absurd (n refl)
set_other (x ∷ ds) zero d (suc b) s n e = e
set_other (x ∷ ds) (suc h) d zero s n e = e
set_other (x ∷ ds) (suc h) d (suc b) s n e = set_other ds h d b s (λ q. n (ap suc q)) e

pub set_here : (ds : List Draft) (h : ℕ) (d s : Draft) → slice_get ds h ≡ Some s → slice_get (slice_set ds h d) h ≡ Some d
set_here [] h d s e = cc
set_here (x ∷ ds) zero d s e = refl
set_here (x ∷ ds) (suc h) d s e = set_here ds h d s e

-- the old drafts stand in the new ones
pub record Grown (old new : List Draft) : Type 0 where
  pub same : (b : ℕ) (d : Draft) → slice_get old b ≡ Some d → slice_get new b ≡ Some d

pub grown_same : (ds : List Draft) → Grown ds ds
grown_same ds = record { same = λ b d e. e }

pub grown_then : (x y z : List Draft) → Grown x y → Grown y z → Grown x z
grown_then x y z g h = record { same = λ b d e. h.same b d (g.same b d e) }

pub push_grown : (ds : List Draft) (es : List Event) (e : Sketch) → Grown ds (push ds es e).drafts
push_grown ds es e = record { same = λ b d q. get_front ds (record { events = es; ending = e } ∷ []) b d q }

-- the head is none of the old drafts
filled_grown : (old ds : List Draft) (t : ℕ) → Grown old ds → Grown old (filled ds (length old) t)
filled_grown old ds t g = record { same = λ b d e. set_other ds (length old) _ b d (apart b d e) (g.same b d e) }
  where
    apart : (b : ℕ) (d : Draft) → slice_get old b ≡ Some d → b ≢ length old
    apart b d e q = let l : b < length old = slice_get_within old b d e in omega (arith, q, l)

pub item_grown : (i : Item) (next : ℕ) (ds : List Draft) → Grown ds (item_block i next ds).drafts
item_grown (EventMark e) next ds = push_grown ds (e ∷ []) (Settled (ToAny (next ∷ [])))
item_grown (CallMark site) next ds = push_grown ds [] (Settled (Calls site next))

pub split_grown : (n : Node) (way : Way) (ds : List Draft) → Grown ds (split_blocks n way ds).drafts
split_grown n (To x) ds = grown_same ds
split_grown n (ToEither y z) ds =
    let t = lead ds (Branched n true ∷ []) y in
    let f = lead t.drafts (Branched n false ∷ []) z in
    grown_then ds t.drafts _ (push_grown ds _ _) (grown_then t.drafts f.drafts _ (push_grown t.drafts _ _) (push_grown f.drafts _ _))

mutual
  pub form_grown : (e : Form) (way : Way) (ds : List Draft) → Grown ds (form_blocks e way ds).drafts
  form_grown (Plain n r) way ds = let v = split_blocks n way ds in grown_then ds v.drafts _ (split_grown n way ds) (row_grown r v.block v.drafts)
  form_grown (Inverts x r) (To v) ds = let c = row_blocks r v ds in grown_then ds c.drafts _ (row_grown r v ds) (form_grown x (To c.block) c.drafts)
  form_grown (Inverts x r) (ToEither y z) ds = form_grown x (ToEither z y) ds
  form_grown (Keeps x r) (To v) ds = let c = row_blocks r v ds in grown_then ds c.drafts _ (row_grown r v ds) (form_grown x (To c.block) c.drafts)
  form_grown (Keeps x r) (ToEither y z) ds = form_grown x (ToEither y z) ds
  form_grown (Both x y r) (To v) ds =
      let c = row_blocks r v ds in
      let d = form_blocks y (ToEither c.block c.block) c.drafts in
      grown_then ds c.drafts _ (row_grown r v ds) (grown_then c.drafts d.drafts _ (form_grown y (ToEither c.block c.block) c.drafts) (form_grown x (ToEither d.block c.block) d.drafts))
  form_grown (Both x y r) (ToEither t f) ds = let d = form_blocks y (ToEither t f) ds in grown_then ds d.drafts _ (form_grown y (ToEither t f) ds) (form_grown x (ToEither d.block f) d.drafts)
  form_grown (Any x y r) (To v) ds =
      let c = row_blocks r v ds in
      let d = form_blocks y (ToEither c.block c.block) c.drafts in
      grown_then ds c.drafts _ (row_grown r v ds) (grown_then c.drafts d.drafts _ (form_grown y (ToEither c.block c.block) c.drafts) (form_grown x (ToEither c.block d.block) d.drafts))
  form_grown (Any x y r) (ToEither t f) ds = let d = form_blocks y (ToEither t f) ds in grown_then ds d.drafts _ (form_grown y (ToEither t f) ds) (form_grown x (ToEither t d.block) d.drafts)
  form_grown (Chooses x y z r) (To v) ds =
      let c = row_blocks r v ds in
      let d = form_blocks y (To c.block) c.drafts in
      let e = form_blocks z (To c.block) d.drafts in
      grown_then ds c.drafts _ (row_grown r v ds) (grown_then c.drafts d.drafts _ (form_grown y (To c.block) c.drafts) (grown_then d.drafts e.drafts _ (form_grown z (To c.block) d.drafts) (form_grown x (ToEither d.block e.block) e.drafts)))
  form_grown (Chooses x y z r) (ToEither t f) ds =
      let d = form_blocks y (ToEither t f) ds in
      let e = form_blocks z (ToEither t f) d.drafts in
      grown_then ds d.drafts _ (form_grown y (ToEither t f) ds) (grown_then d.drafts e.drafts _ (form_grown z (ToEither t f) d.drafts) (form_grown x (ToEither d.block e.block) e.drafts))
  form_grown (Follows x y r) (To v) ds =
      let c = row_blocks r v ds in
      let d = form_blocks y (To c.block) c.drafts in
      grown_then ds c.drafts _ (row_grown r v ds) (grown_then c.drafts d.drafts _ (form_grown y (To c.block) c.drafts) (form_grown x (To d.block) d.drafts))
  form_grown (Follows x y r) (ToEither t f) ds = let d = form_blocks y (ToEither t f) ds in grown_then ds d.drafts _ (form_grown y (ToEither t f) ds) (form_grown x (To d.block) d.drafts)

  pub row_grown : (r : Row) (v : ℕ) (ds : List Draft) → Grown ds (row_blocks r v ds).drafts
  row_grown done v ds = grown_same ds
  row_grown (operand x r) v ds = let c = row_blocks r v ds in grown_then ds c.drafts _ (row_grown r v ds) (form_grown x (To c.block) c.drafts)
  row_grown (item i r) v ds = let c = row_blocks r v ds in grown_then ds c.drafts _ (row_grown r v ds) (item_grown i c.block c.drafts)

pub test_grown : (old ds : List Draft) (c : Option Form) (body next : ℕ) → Grown old ds → Grown old (test_blocks c body next (length old) ds)
test_grown old ds None body next g = filled_grown old ds body g
test_grown old ds (Some c) body next g =
    let t = form_blocks c (ToEither body next) ds in filled_grown old t.drafts t.block (grown_then old ds t.drafts g (form_grown c (ToEither body next) ds))

mutual
  pub flow_grown : (s : Flow) (next brk cont : ℕ) (ds : List Draft) → Grown ds (flow_blocks s next brk cont ds).drafts
  flow_grown (Does r) next brk cont ds = row_grown r next ds
  flow_grown (Block ss) next brk cont ds = flows_grown ss next brk cont ds
  flow_grown (If c s t) next brk cont ds =
      let n = flow_blocks t next brk cont ds in
      let m = flow_blocks s next brk cont n.drafts in
      grown_then ds n.drafts _ (flow_grown t next brk cont ds) (grown_then n.drafts m.drafts _ (flow_grown s next brk cont n.drafts) (form_grown c (ToEither m.block n.block) m.drafts))
  flow_grown (While c s) next brk cont ds =
      let h = push ds [] Waits in
      let m = flow_blocks s h.block next h.block h.drafts in
      test_grown ds m.drafts (Some c) m.block next (grown_then ds h.drafts m.drafts (push_grown ds [] Waits) (flow_grown s h.block next h.block h.drafts))
  flow_grown (Do s c) next brk cont ds =
      let h = push ds [] Waits in
      let m = flow_blocks s h.block next h.block h.drafts in
      test_grown ds m.drafts (Some c) m.block next (grown_then ds h.drafts m.drafts (push_grown ds [] Waits) (flow_grown s h.block next h.block h.drafts))
  flow_grown (For i c u s) next brk cont ds =
      let h = push ds [] Waits in
      let t = row_blocks u h.block h.drafts in
      let m = flow_blocks s t.block next t.block t.drafts in
      let tested = test_blocks c m.block next h.block m.drafts in
      grown_then ds tested _
      (test_grown ds m.drafts c m.block next (grown_then ds h.drafts m.drafts (push_grown ds [] Waits) (grown_then h.drafts t.drafts m.drafts (row_grown u h.block h.drafts) (flow_grown s t.block next t.block t.drafts))))
      (row_grown i h.block tested)
  flow_grown (Switch r s) next brk cont ds =
      let m = flow_blocks s next next cont ds in
      let v = push m.drafts [] (Settled (ToAny (m.cases ++ if_so (not (has_default s)) next))) in
      grown_then ds m.drafts _ (flow_grown s next next cont ds) (grown_then m.drafts v.drafts _ (push_grown m.drafts _ _) (row_grown r v.block v.drafts))
  flow_grown (Case s) next brk cont ds = flow_grown s next brk cont ds
  flow_grown (Default s) next brk cont ds = flow_grown s next brk cont ds
  flow_grown (Label L s) next brk cont ds = flow_grown s next brk cont ds
  flow_grown (Goto L) next brk cont ds = push_grown ds [] (Jumps L)
  flow_grown Break next brk cont ds = grown_same ds
  flow_grown Continue next brk cont ds = grown_same ds
  flow_grown (Return r e) next brk cont ds =
      let x = push ds (e ∷ []) (Settled Stops) in grown_then ds x.drafts _ (push_grown ds _ _) (row_grown r x.block x.drafts)

  pub flows_grown : (ss : Flows) (next brk cont : ℕ) (ds : List Draft) → Grown ds (flows_blocks ss next brk cont ds).drafts
  flows_grown no_flows next brk cont ds = grown_same ds
  flows_grown (flows s ss) next brk cont ds =
      let n = flows_blocks ss next brk cont ds in
      grown_then ds n.drafts _ (flows_grown ss next brk cont ds) (flow_grown s n.block brk cont n.drafts)
