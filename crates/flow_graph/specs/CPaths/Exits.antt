-- Where exits stand: behind what a `return` evaluates, and nowhere in an expression or a declaration.
use Rattle.std.specs.Prelude.{◌≡◌, Bool, true, false, List, [], ◌∷◌, Option, None, Some}
use Rattle.path_theory.specs.Marks.{EventMark, CallMark}
use Rattle.flow_graph.specs.CPaths.Events.{Event, Evaluated, Declared, Branched, Exited, Item}
use Rattle.flow_graph.specs.CPaths.Forms.{Form, Plain, Inverts, Keeps, Both, Any, Chooses, Follows, Row, done, operand, item}
use Rattle.flow_graph.specs.CPaths.Flow.{Flow, Does, Block, If, While, Do, For, Switch, Case, Default, Label, Goto, Break, Continue, Return, Flows, no_flows, flows}

abbrev pub is_exit : Item → Bool
is_exit (EventMark (Evaluated s)) = false
is_exit (EventMark (Declared x)) = false
is_exit (EventMark (Branched n t)) = false
is_exit (EventMark (Exited f p)) = true
is_exit (CallMark n) = false

abbrev pub NoExits : List Event → Type 0
NoExits [] = Unit {0}
NoExits (e ∷ es) = (is_exit (EventMark e) ≡ false) × NoExits es

-- no evaluation gives an exit
abbrev mutual
  pub IsInnerForm : Form → Type 0
  IsInnerForm (Plain n r) = IsInnerRow r
  IsInnerForm (Inverts x r) = IsInnerForm x × IsInnerRow r
  IsInnerForm (Keeps x r) = IsInnerForm x × IsInnerRow r
  IsInnerForm (Both x y r) = IsInnerForm x × IsInnerForm y × IsInnerRow r
  IsInnerForm (Any x y r) = IsInnerForm x × IsInnerForm y × IsInnerRow r
  IsInnerForm (Chooses x y z r) = IsInnerForm x × IsInnerForm y × IsInnerForm z × IsInnerRow r
  IsInnerForm (Follows x y r) = IsInnerForm x × IsInnerForm y × IsInnerRow r

  pub IsInnerRow : Row → Type 0
  IsInnerRow done = Unit {0}
  IsInnerRow (operand x r) = IsInnerForm x × IsInnerRow r
  IsInnerRow (item i r) = (is_exit i ≡ false) × IsInnerRow r

abbrev pub IsInnerMaybe : Option Form → Type 0
IsInnerMaybe None = Unit {0}
IsInnerMaybe (Some e) = IsInnerForm e

-- each `return` gives an exit, and nothing else does
abbrev mutual
  pub ExitsLast : Flow → Type 0
  ExitsLast (Does r) = IsInnerRow r
  ExitsLast (Block ss) = ExitsLastIn ss
  ExitsLast (If c s t) = IsInnerForm c × ExitsLast s × ExitsLast t
  ExitsLast (While c s) = IsInnerForm c × ExitsLast s
  ExitsLast (Do s c) = ExitsLast s × IsInnerForm c
  ExitsLast (For i c u s) = IsInnerRow i × IsInnerMaybe c × IsInnerRow u × ExitsLast s
  ExitsLast (Switch r s) = IsInnerRow r × ExitsLast s
  ExitsLast (Case s) = ExitsLast s
  ExitsLast (Default s) = ExitsLast s
  ExitsLast (Label L s) = ExitsLast s
  ExitsLast (Goto L) = Unit {0}
  ExitsLast Break = Unit {0}
  ExitsLast Continue = Unit {0}
  ExitsLast (Return r e) = IsInnerRow r × (is_exit (EventMark e) ≡ true)

  pub ExitsLastIn : Flows → Type 0
  ExitsLastIn no_flows = Unit {0}
  ExitsLastIn (flows s ss) = ExitsLast s × ExitsLastIn ss
