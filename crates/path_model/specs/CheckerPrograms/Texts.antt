-- A program as a checker is told of it: the trees, the types and the tokens of each unit, in the order of their files.
use Rattle.std.specs.Prelude.{ℕ, List, [], ◌∷◌, map, nat_eq, slice_get, Bool, cond, ◌&&◌, Option, None, Some}
use Rattle.std.specs.Option.{option_map}
use Rattle.c_objects.specs.Facts as objects
use Rattle.flow_graph.specs.CPaths.Events.{Event}
use Rattle.flow_graph.specs.CPaths.Facts.{Facts}
use Rattle.flow_graph.specs.CPaths.Traces.{Definition}
use Rattle.c_tree.specs.declared.place.Place.{Place}
use Rattle.c_tree.specs.declared.token.Token.{Token}
use Rattle.c_tree.specs.Node.{Node, node, Statement, Block, Nodes, no_more}
use Rattle.type_rules.specs.Definition.{Table}
use Rattle.type_rules.specs.Functions.{Defined}
use Rattle.type_rules.specs.Options.{if_there, ◌>?◌}
use Rattle.path_model.specs.CheckerModel.Calls.{actuals_of}
use Rattle.path_model.specs.CheckerModel.Happenings.{Function, Happening, Site}
use Rattle.call_graph.specs.FunctionGraphs.Closing.{closing_brace}
use Rattle.call_graph.specs.FunctionGraphs.Known.{facts_of}
use Rattle.c_tree.specs.PathSubjects.Subjects.{first_of}
use Rattle.call_graph.specs.OfPrograms.Calls.{body_called}
use Rattle.call_graph.specs.OfPrograms.Definitions.{definitions}
use Rattle.typed_unit.specs.Texts.{Text}

-- the functions that the units define, in source order
abbrev pub functions_in : List Text → List Defined
functions_in ts = definitions (map (λ t. t.trees) ts)

-- the types and variables of the trees in a file
abbrev pub type_table : List Text → ℕ → Table
type_table ts file = if_there (slice_get ts file) [] (λ t. t.table)

abbrev pub tokens_of : List Text → ℕ → List Token
tokens_of ts file = if_there (slice_get ts file) [] (λ t. t.tokens)

abbrev pub trees_of : List Text → ℕ → Nodes
trees_of ts file = if_there (slice_get ts file) no_more (λ t. t.trees)

-- what is known of the types and variables in a file
abbrev pub objects_in : List Text → ℕ → objects.Facts
objects_in ts file = objects.facts_of (trees_of ts file) (type_table ts file)

-- a function is known by its name and the place of that
abbrev pub function_of : Defined → Function
function_of d = record { place = d.place; name = d.name }

abbrev pub same_place : Place → Place → Bool
same_place p q = nat_eq p.file q.file && nat_eq p.token q.token

-- this is where the function is defined
abbrev pub defines : Defined → Function → Bool
defines d f = same_place d.place f.place && nat_eq d.name f.name

abbrev pub defined_as : List Defined → Function → Option Defined
defined_as [] f = None
defined_as (d ∷ ds) f = cond (defines d f) (Some d) (defined_as ds f)

-- its definition; what is no function of the program has an empty body
abbrev pub empty : Place → Definition
empty p = record { place = p; body = node 0 p (Statement (Block no_more)); close = p }

abbrev pub with_close : List Text → Defined → Definition
with_close ts d = record { place = d.place; body = d.body; close = closing_brace (tokens_of ts d.file) (first_of d.body) }

abbrev pub definition_of : List Text → Function → Definition
definition_of ts f = if_there (defined_as (functions_in ts) f) (empty f.place) (with_close ts)

-- what evaluation asks of its file
abbrev pub flow_facts : List Text → Function → Facts
flow_facts ts f = facts_of (type_table ts f.place.file) f.place.file (functions_in ts)

-- an event of the function, with its unit
abbrev pub happening : List Text → Function → Event → Happening
happening ts f e = record { facts = objects_in ts f.place.file; tokens = tokens_of ts f.place.file; event = e }

-- the function that a call in this file calls, if it has a body in the program
abbrev pub callee_of : List Text → ℕ → Node → Option Defined
callee_of ts file call = body_called (type_table ts file) file (functions_in ts) call >? slice_get (functions_in ts)

-- a call in the function
abbrev pub site : ℕ → List Text → Function → Node → Site
site depth ts f call = record {
  callee = option_map function_of (callee_of ts f.place.file call);
  formals = if_there (callee_of ts f.place.file call) [] (λ d. d.formals);
  actuals = actuals_of (objects_in ts f.place.file) depth call;
}
