-- Statements (ISO 9899:1990, 6.6), by what they do to the flow of control.
use Rattle.std.specs.Prelude.{ℕ, Option}
use Rattle.flow_graph.specs.CPaths.Events.{Event}
use Rattle.flow_graph.specs.CPaths.Forms.{Form, Row}

mutual
  pub data Flow : Type 0 where
    -- an expression statement or a declaration
    Does : Row → Flow
    Block : Flows → Flow
    If : Form → Flow → Flow → Flow
    While : Form → Flow → Flow
    Do : Flow → Form → Flow
    -- what comes first, the condition, what comes last in each turn, the body
    For : Row → Option Form → Row → Flow → Flow
    Switch : Row → Flow → Flow
    Case : Flow → Flow
    Default : Flow → Flow
    -- a label by its name
    Label : ℕ → Flow → Flow
    Goto : ℕ → Flow
    Break : Flow
    Continue : Flow
    -- what is evaluated, and the exit behind it
    Return : Row → Event → Flow

  pub data Flows : Type 0 where
    no_flows : Flows
    flows : Flow → Flows → Flows
