-- What stands in the text of a function: each item that its expressions, declarations and returns may give, also where no
-- trace comes. What isn't evaluated, as in `sizeof`, isn't there, and a branch is there only where a condition is asked.
use Rattle.std.specs.Prelude.{◌≡◌, ◌⊎◌, Bool, true, false, List, [], ◌∷◌, Option, None, Some}
use Rattle.path_theory.specs.Marks.{EventMark, CallMark}
use Rattle.flow_graph.specs.CPaths.Events.{Event, Item, branched}
use Rattle.flow_graph.specs.CPaths.Forms.{Form, Plain, Inverts, Keeps, Both, Any, Chooses, Follows, Row, done, operand, item}
use Rattle.flow_graph.specs.CPaths.Flow.{Flow, Does, Block, If, While, Do, For, Switch, Case, Default, Label, Goto, Break, Continue, Return, Flows, no_flows, flows}
use Rattle.flow_graph.specs.CPaths.Graphs.{Block as BasicBlock, Ending, ToAny, Calls, Stops}

abbrev mutual
  -- of an expression that is evaluated for its value, or, where the truth says so, as a condition
  pub InForm : Item → Bool → Form → Type 0
  InForm i false (Plain n r) = InRow i r
  InForm i true (Plain n r) = ((t : Bool) × (i ≡ branched n t)) ⊎ InRow i r
  InForm i false (Inverts x r) = InForm i false x ⊎ InRow i r
  InForm i true (Inverts x r) = InForm i true x
  InForm i false (Keeps x r) = InForm i false x ⊎ InRow i r
  InForm i true (Keeps x r) = InForm i true x
  InForm i false (Both x y r) = InForm i true x ⊎ (InForm i true y ⊎ InRow i r)
  InForm i true (Both x y r) = InForm i true x ⊎ InForm i true y
  InForm i false (Any x y r) = InForm i true x ⊎ (InForm i true y ⊎ InRow i r)
  InForm i true (Any x y r) = InForm i true x ⊎ InForm i true y
  InForm i false (Chooses x y z r) = InForm i true x ⊎ (InForm i false y ⊎ (InForm i false z ⊎ InRow i r))
  InForm i true (Chooses x y z r) = InForm i true x ⊎ (InForm i true y ⊎ InForm i true z)
  InForm i false (Follows x y r) = InForm i false x ⊎ (InForm i false y ⊎ InRow i r)
  InForm i true (Follows x y r) = InForm i false x ⊎ InForm i true y

  pub InRow : Item → Row → Type 0
  InRow i done = ⊥
  InRow i (operand x r) = InForm i false x ⊎ InRow i r
  InRow i (item j r) = (i ≡ j) ⊎ InRow i r

-- of a condition that may be left out
abbrev pub InMaybe : Item → Option Form → Type 0
InMaybe i None = ⊥
InMaybe i (Some e) = InForm i true e

abbrev mutual
  pub InFlow : Item → Flow → Type 0
  InFlow i (Does r) = InRow i r
  InFlow i (Block ss) = InFlows i ss
  InFlow i (If c s t) = InForm i true c ⊎ (InFlow i s ⊎ InFlow i t)
  InFlow i (While c s) = InForm i true c ⊎ InFlow i s
  InFlow i (Do s c) = InForm i true c ⊎ InFlow i s
  InFlow i (For j c u s) = InRow i j ⊎ (InMaybe i c ⊎ (InRow i u ⊎ InFlow i s))
  InFlow i (Switch r s) = InRow i r ⊎ InFlow i s
  InFlow i (Case s) = InFlow i s
  InFlow i (Default s) = InFlow i s
  InFlow i (Label L s) = InFlow i s
  InFlow i (Goto L) = ⊥
  InFlow i Break = ⊥
  InFlow i Continue = ⊥
  InFlow i (Return r e) = (i ≡ EventMark e) ⊎ InRow i r

  pub InFlows : Item → Flows → Type 0
  InFlows i no_flows = ⊥
  InFlows i (flows s ss) = InFlow i s ⊎ InFlows i ss

-- the item is an event of this block, or the mark of the call in which it ends
abbrev pub InEvents : Item → List Event → Type 0
InEvents i [] = ⊥
InEvents i (e ∷ es) = (i ≡ EventMark e) ⊎ InEvents i es

abbrev pub InEnding : Item → Ending → Type 0
InEnding i (ToAny bs) = ⊥
InEnding i (Calls site b) = i ≡ CallMark site
InEnding i Stops = ⊥

-- the item stands in some block
abbrev pub InGraph : Item → List BasicBlock → Type 0
InGraph i [] = ⊥
InGraph i (s ∷ ss) = (InEvents i s.events ⊎ InEnding i s.ending) ⊎ InGraph i ss
