-- A plain builder of flow graphs. It goes from the end: what it builds leads to blocks that are there already, but for the
-- head of a loop, which is reserved and filled behind the body.
use Rattle.std.specs.Prelude.{ℕ, true, false, not, ◌==◌, List, [], ◌∷◌, ◌++◌, length, map, slice_set, Option, Some, None}
use Rattle.c_tree.specs.Node.{Node}
use Rattle.path_theory.specs.Marks.{EventMark, CallMark}
use Rattle.flow_graph.specs.CPaths.Events.{Event, Item, Branched, Exited}
use Rattle.flow_graph.specs.CPaths.Facts.{Facts}
use Rattle.flow_graph.specs.CPaths.Forms.{Form, Plain, Inverts, Keeps, Both, Any, Chooses, Follows, Row, done, operand, item}
use Rattle.flow_graph.specs.CPaths.Flow.{Flow, Does, Block, If, While, Do, For, Switch, Case, Default, Label, Goto, Break, Continue, Return, Flows, no_flows, flows}
use Rattle.flow_graph.specs.CPaths.TreeFlow.{flow_of}
use Rattle.flow_graph.specs.CPaths.Traces.{Definition}
use Rattle.flow_graph.specs.CPaths.Labels.{if_so, has_default}
use Rattle.flow_graph.specs.CPaths.Graphs.{Block as BasicBlock, Ending, ToAny, Calls, Stops}
use Rattle.flow_graph.specs.CPaths.Fragments.{Way, To, ToEither}
use Rattle.flow_graph.specs.CPaths.Layout.{Entry}

-- how a block ends while the graph grows
pub data Sketch : Type 0 where
  Settled : Ending → Sketch
  -- at whatever blocks the label then has
  Jumps : (label : ℕ) → Sketch
  -- it is reserved
  Waits : Sketch

pub record Draft : Type 0 where
  pub events : List Event
  pub ending : Sketch

-- the blocks so far, and the one where what was built begins
pub record Made : Type 0 where
  pub drafts : List Draft
  pub block : ℕ

-- one block more
abbrev pub push : List Draft → List Event → Sketch → Made
push ds es e = record { drafts = ds ++ record { events = es; ending = e } ∷ []; block = length ds }

-- a block with these events that leads to one other
abbrev pub lead : List Draft → List Event → ℕ → Made
lead ds es next = push ds es (Settled (ToAny (next ∷ [])))

-- the block at the head of a loop leads to its condition
abbrev pub filled : List Draft → ℕ → ℕ → List Draft
filled ds head test = slice_set ds head (record { events = []; ending = Settled (ToAny (test ∷ [])) })

abbrev pub item_block : Item → ℕ → List Draft → Made
item_block (EventMark e) next ds = lead ds (e ∷ []) next
item_block (CallMark site) next ds = push ds [] (Settled (Calls site next))

-- where an expression leads once it has its value: as a condition to two branches
abbrev pub split_blocks : Node → Way → List Draft → Made
split_blocks n (To x) ds = record { drafts = ds; block = x }
split_blocks n (ToEither y z) ds =
    let t = lead ds (Branched n true ∷ []) y in
    let f = lead t.drafts (Branched n false ∷ []) z in
    push f.drafts [] (Settled (ToAny (t.block ∷ f.block ∷ [])))

abbrev mutual
  pub form_blocks : Form → Way → List Draft → Made
  form_blocks (Plain n r) way ds = let v = split_blocks n way ds in row_blocks r v.block v.drafts
  form_blocks (Inverts x r) (To v) ds = let c = row_blocks r v ds in form_blocks x (To c.block) c.drafts
  form_blocks (Inverts x r) (ToEither y z) ds = form_blocks x (ToEither z y) ds
  form_blocks (Keeps x r) (To v) ds = let c = row_blocks r v ds in form_blocks x (To c.block) c.drafts
  form_blocks (Keeps x r) (ToEither y z) ds = form_blocks x (ToEither y z) ds
  form_blocks (Both x y r) (To v) ds = let c = row_blocks r v ds in let d = form_blocks y (ToEither c.block c.block) c.drafts in form_blocks x (ToEither d.block c.block) d.drafts
  form_blocks (Both x y r) (ToEither t f) ds = let d = form_blocks y (ToEither t f) ds in form_blocks x (ToEither d.block f) d.drafts
  form_blocks (Any x y r) (To v) ds = let c = row_blocks r v ds in let d = form_blocks y (ToEither c.block c.block) c.drafts in form_blocks x (ToEither c.block d.block) d.drafts
  form_blocks (Any x y r) (ToEither t f) ds = let d = form_blocks y (ToEither t f) ds in form_blocks x (ToEither t d.block) d.drafts
  form_blocks (Chooses x y z r) (To v) ds =
      let c = row_blocks r v ds in let d = form_blocks y (To c.block) c.drafts in let e = form_blocks z (To c.block) d.drafts in form_blocks x (ToEither d.block e.block) e.drafts
  form_blocks (Chooses x y z r) (ToEither t f) ds =
      let d = form_blocks y (ToEither t f) ds in let e = form_blocks z (ToEither t f) d.drafts in form_blocks x (ToEither d.block e.block) e.drafts
  form_blocks (Follows x y r) (To v) ds = let c = row_blocks r v ds in let d = form_blocks y (To c.block) c.drafts in form_blocks x (To d.block) d.drafts
  form_blocks (Follows x y r) (ToEither t f) ds = let d = form_blocks y (ToEither t f) ds in form_blocks x (To d.block) d.drafts

  pub row_blocks : Row → ℕ → List Draft → Made
  row_blocks done v ds = record { drafts = ds; block = v }
  row_blocks (operand x r) v ds = let c = row_blocks r v ds in form_blocks x (To c.block) c.drafts
  row_blocks (item i r) v ds = let c = row_blocks r v ds in item_block i c.block c.drafts

-- the condition of a loop whose head is reserved
abbrev pub test_blocks : Option Form → (body next head : ℕ) → List Draft → List Draft
test_blocks None body next head ds = filled ds head body
test_blocks (Some c) body next head ds = let t = form_blocks c (ToEither body next) ds in filled t.drafts head t.block

-- a statement, with its cases for the innermost switch round it and its labels
pub record Placed : Type 0 where
  pub drafts : List Draft
  pub block : ℕ
  pub cases : List ℕ
  pub labels : List Entry

-- without cases and labels
abbrev pub simple : Made → Placed
simple m = record { drafts = m.drafts; block = m.block; cases = []; labels = [] }

abbrev mutual
  pub flow_blocks : Flow → (next brk cont : ℕ) → List Draft → Placed
  flow_blocks (Does r) next brk cont ds = simple (row_blocks r next ds)
  flow_blocks (Block ss) next brk cont ds = flows_blocks ss next brk cont ds
  flow_blocks (If c s t) next brk cont ds =
      let n = flow_blocks t next brk cont ds in
      let m = flow_blocks s next brk cont n.drafts in
      let b = form_blocks c (ToEither m.block n.block) m.drafts in
      record { drafts = b.drafts; block = b.block; cases = n.cases ++ m.cases; labels = n.labels ++ m.labels }
  flow_blocks (While c s) next brk cont ds =
      let h = push ds [] Waits in
      let m = flow_blocks s h.block next h.block h.drafts in
      record { drafts = test_blocks (Some c) m.block next h.block m.drafts; block = h.block; cases = m.cases; labels = m.labels }
  flow_blocks (Do s c) next brk cont ds =
      let h = push ds [] Waits in
      let m = flow_blocks s h.block next h.block h.drafts in
      record { drafts = test_blocks (Some c) m.block next h.block m.drafts; block = m.block; cases = m.cases; labels = m.labels }
  flow_blocks (For i c u s) next brk cont ds =
      let h = push ds [] Waits in
      let t = row_blocks u h.block h.drafts in
      let m = flow_blocks s t.block next t.block t.drafts in
      let b = row_blocks i h.block (test_blocks c m.block next h.block m.drafts) in
      record { drafts = b.drafts; block = b.block; cases = m.cases; labels = m.labels }
  flow_blocks (Switch r s) next brk cont ds =
      let m = flow_blocks s next next cont ds in
      let v = push m.drafts [] (Settled (ToAny (m.cases ++ if_so (not (has_default s)) next))) in
      let b = row_blocks r v.block v.drafts in
      record { drafts = b.drafts; block = b.block; cases = []; labels = m.labels }
  flow_blocks (Case s) next brk cont ds =
      let m = flow_blocks s next brk cont ds in
      record { drafts = m.drafts; block = m.block; cases = m.cases ++ m.block ∷ []; labels = m.labels }
  flow_blocks (Default s) next brk cont ds =
      let m = flow_blocks s next brk cont ds in
      record { drafts = m.drafts; block = m.block; cases = m.cases ++ m.block ∷ []; labels = m.labels }
  flow_blocks (Label L s) next brk cont ds =
      let m = flow_blocks s next brk cont ds in
      record { drafts = m.drafts; block = m.block; cases = m.cases; labels = m.labels ++ record { label = L; block = m.block } ∷ [] }
  flow_blocks (Goto L) next brk cont ds = simple (push ds [] (Jumps L))
  flow_blocks Break next brk cont ds = simple (record { drafts = ds; block = brk })
  flow_blocks Continue next brk cont ds = simple (record { drafts = ds; block = cont })
  flow_blocks (Return r e) next brk cont ds =
      let x = push ds (e ∷ []) (Settled Stops) in simple (row_blocks r x.block x.drafts)

  pub flows_blocks : Flows → (next brk cont : ℕ) → List Draft → Placed
  flows_blocks no_flows next brk cont ds = simple (record { drafts = ds; block = next })
  flows_blocks (flows s ss) next brk cont ds =
      let n = flows_blocks ss next brk cont ds in
      let m = flow_blocks s n.block brk cont n.drafts in
      record { drafts = m.drafts; block = m.block; cases = n.cases ++ m.cases; labels = n.labels ++ m.labels }

-- the blocks of a label
abbrev pub label_blocks : ℕ → List Entry → List ℕ
label_blocks L [] = []
label_blocks L (p ∷ ps) = if_so (p.label == L) p.block ++ label_blocks L ps

-- how a block ends once each label has its blocks
abbrev pub settled_ending : List Entry → Sketch → Ending
settled_ending ps (Settled e) = e
settled_ending ps (Jumps L) = ToAny (label_blocks L ps)
settled_ending ps Waits = ToAny []

abbrev pub settled : List Entry → Draft → BasicBlock
settled ps d = record { events = d.events; ending = settled_ending ps d.ending }

pub record Graph : Type 0 where
  pub blocks : List BasicBlock
  pub entry : ℕ

-- the graph of a body: a dead block, the exit, and the statement before it
abbrev pub body_graph : Flow → Event → Graph
body_graph body exit =
    let dead = push [] [] (Settled (ToAny [])) in
    let last = push dead.drafts (exit ∷ []) (Settled Stops) in
    let m = flow_blocks body last.block dead.block dead.block last.drafts in
    record { blocks = map (settled m.labels) m.drafts; entry = m.block }

-- the graph of a function
abbrev pub graph_of : Facts → Definition → Graph
graph_of F d = body_graph (flow_of F d.place d.body) (Exited d.place d.close)
