-- Which calls are followed under a checker.
use Rattle.std.specs.Prelude.{ℕ, List, Option, None, Bool, false, cond}
use Rattle.std.specs.List.{list_any}
use Rattle.c_tree.specs.Node.{Node}
use Rattle.type_rules.specs.Definition.{Table}
use Rattle.type_rules.specs.Functions.{Defined}
use Rattle.type_rules.specs.Options.{◌>?◌}
use Rattle.type_rules.specs.Scopes.{Scopes}
use Rattle.call_graph.specs.Callees.{calls}
use Rattle.metal_tree.specs.MetalMachines.Machine.{Item, Base, Rule, Machine}
use Rattle.call_graph.specs.OfPrograms.Bodies.{body_of}
use Rattle.call_graph.specs.OfPrograms.Calls.{called_name, called_name_at}

-- a base pattern in which the name is called
abbrev pub item_calls : ℕ → Item → Bool
item_calls name (Base tree) = calls name tree
item_calls name _ = false

abbrev pub items_call : ℕ → List Item → Bool
items_call name items = list_any (item_calls name) items

abbrev pub rule_calls : ℕ → Rule → Bool
rule_calls name r = list_any (items_call name) r.alternatives

-- The name stands in callee position in a base pattern of the checker, which therefore says itself what a call of it does.
abbrev pub machine_calls : ℕ → Machine → Bool
machine_calls name m = list_any (rule_calls name) m.rules

-- the body of a name, if the checker's patterns don't call it
abbrev pub body_followed : Machine → ℕ → List Defined → ℕ → Option ℕ
body_followed m file fs name = cond (machine_calls name m) None (body_of file name fs)

-- THE FOLLOWED CALL: the body that a call calls under a checker, by the position of its definition. The call stands in the unit
-- with this file, whose table this is.
abbrev pub followed : Machine → Table → ℕ → List Defined → Node → Option ℕ
followed m table file fs call = called_name table call >? body_followed m file fs

-- the same by the declarations in force where the call stands
abbrev pub followed_at : Machine → Scopes → ℕ → List Defined → Node → Option ℕ
followed_at m v file fs call = called_name_at v call >? body_followed m file fs
