-- What the evaluation of a function's trees asks of types and scopes.
use Rattle.std.specs.Prelude.{Bool, Option}
use Rattle.c_tree.specs.Node.{Node}
use Rattle.flow_graph.specs.CPaths.Events.{Variable}

pub record Facts : Type 0 where
  -- whether the callee of this call, without parentheses, is a name whose declaration in force is that of a function with a
  -- body, in its own file or with external linkage in another; or whose implicit declaration would be (6.3.2.2), where none
  -- is in force. A parameter or a variable that hides such a function is none.
  pub has_body : Node → Bool
  -- the variable that this declarator of a declaration declares, if it has automatic storage; none for a `static` or an
  -- `extern` variable, a function, or the name of a type
  pub variable_of : Node → Option Variable
