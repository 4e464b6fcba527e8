-- What is known of the trees of a unit in a program, as a function of the unit's table.
use Rattle.std.specs.Prelude.{ℕ, List, is_some}
use Rattle.std.specs.Borrow.{Bor}
use Rattle.flow_graph.specs.CPaths.Facts.{Facts}
use Rattle.type_rules.specs.Definition.{Table}
use Rattle.type_rules.specs.Functions.{Defined}
use Rattle.call_graph.specs.FunctionGraphs.Variables.{variable_of}
use Rattle.call_graph.specs.declared.function_graphs.unit_facts.UnitFacts.{UnitFacts}
use Rattle.call_graph.specs.OfPrograms.Calls.{body_called, table_in}
use Rattle.call_graph.specs.OfPrograms.Definitions.{definitions, trees_in}
use Rattle.typed_unit.specs.declared.typed_unit.TypedUnit.{TypedUnit}

-- THE FACTS in the file with this number, whose nodes have this table, of a program with these functions. A callee has a body
-- where the program has one for its name: that of its own file, else the one with external linkage.
abbrev pub facts_of : Table → ℕ → List Defined → Facts
facts_of table file functions = record {
  has_body = λ call. is_some (body_called table file functions call);
  variable_of = variable_of table;
}

-- in this file of the program of these units
abbrev pub facts_in : List (Bor TypedUnit) → ℕ → Facts
facts_in units file = facts_of (table_in units file) file (definitions (trees_in units))

abbrev pub known_by : UnitFacts → Facts
known_by f = facts_in f.program.now.units.items f.file
