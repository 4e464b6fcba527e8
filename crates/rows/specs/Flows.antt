-- What rows of traces know: each call calls a function with a body, and each plain declarator declares a variable.
use Rattle.std.specs.Prelude.{true, Option, None, Some}
use Rattle.c_tree.specs.Node.{Node, node, Declarator, Named}
use Rattle.flow_graph.specs.CPaths.Events.{Variable}
use Rattle.flow_graph.specs.CPaths.Facts.{Facts}

abbrev pub plain_variable : Node → Option Variable
plain_variable (node _ _ (Declarator (Named pointers name suffixes))) = Some (record { place = name.place; name = name.name })
plain_variable _ = None

abbrev pub plain_facts : Facts
plain_facts = record { has_body = λ n. true; variable_of = plain_variable }
