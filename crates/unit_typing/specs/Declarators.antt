-- Declarators with nothing around what they declare.
use Rattle.std.specs.Prelude.{Bool, true, false, List, [], ◌∷◌}
use Rattle.c_tree.specs.declared.token.Token.{Token}
use Rattle.c_tree.specs.Node.{Nodes, no_more, more}

abbrev pub no_tokens : List Token → Bool
no_tokens [] = true
no_tokens (t ∷ ts) = false

abbrev pub no_nodes : Nodes → Bool
no_nodes no_more = true
no_nodes (more e es) = false
