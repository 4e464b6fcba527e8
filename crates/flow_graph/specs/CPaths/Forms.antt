-- How an expression is evaluated, by its form: which operands in which order, what happens behind them, and what it is as a
-- condition. Parentheses have no form of their own.
use Rattle.c_tree.specs.Node.{Node}
use Rattle.flow_graph.specs.CPaths.Events.{Item}

mutual
  pub data Form : Type 0 where
    -- all of the row; as a condition, a branch on the tree behind it
    Plain : Node → Row → Form
    -- the operand and then the row; as a condition, the operand with the other truth: `!x`, and `x == 0`, where the row
    -- has the zero
    Inverts : Form → Row → Form
    -- the operand and then the row; as a condition, the operand alone: `x != 0`
    Keeps : Form → Row → Form
    -- `x && y`, and the row behind it where a value is asked
    Both : Form → Form → Row → Form
    -- `x || y`, likewise
    Any : Form → Form → Row → Form
    -- `x ? y : z`, likewise
    Chooses : Form → Form → Form → Row → Form
    -- `x, y`, likewise
    Follows : Form → Form → Row → Form

  -- what happens in order, without choices but those inside of operands
  pub data Row : Type 0 where
    done : Row
    -- an operand, for its value
    operand : Form → Row → Row
    item : Item → Row → Row
