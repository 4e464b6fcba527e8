-- The nodes of which a unit's table has the type.
use Rattle.std.specs.Prelude.{Bool, true, false, is_some, ◌&&◌}
use Rattle.c_tree.specs.Node.{Node, node, Primary, Operation, Initializer, Specifier}
use Rattle.type_rules.specs.Declarators.{name_of}
use Rattle.type_rules.specs.Roles.{Role, Declares, Defines, Formal}
use Rattle.type_rules.specs.Rows.{keeps_initializer, keeps_specifier}

-- an expression, a declarator with its initial, or a type name
abbrev pub is_typed : Node → Bool
is_typed (node i p (Primary k)) = true
is_typed (node i p (Operation k)) = true
is_typed (node i p (Initializer k)) = keeps_initializer k
is_typed (node i p (Specifier k)) = keeps_specifier k
is_typed _ = false

-- a whole declarator of a declaration, of the definition of a function or of a parameter
abbrev pub is_declaring : Role → Bool
is_declaring (Declares s t) = true
is_declaring (Defines s t) = true
is_declaring (Formal t) = true
is_declaring _ = false

-- a declarator that declares a name in this role
abbrev pub declares_name : Role → Node → Bool
declares_name r e = is_declaring r && is_some (name_of e)
