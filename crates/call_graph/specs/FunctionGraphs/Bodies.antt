-- The functions of a program as the definition of traces has them.
use Rattle.std.specs.Prelude.{ℕ, List, [], slice_get}
use Rattle.std.specs.Borrow.{Bor}
use Rattle.flow_graph.specs.CPaths.Traces.{Definition}
use Rattle.c_tree.specs.declared.token.Token.{Token}
use Rattle.c_tree.specs.PathSubjects.Subjects.{first_of}
use Rattle.type_rules.specs.Functions.{Defined}
use Rattle.type_rules.specs.Options.{if_there}
use Rattle.call_graph.specs.FunctionGraphs.Closing.{closing_brace}
use Rattle.typed_unit.specs.declared.typed_unit.TypedUnit.{TypedUnit}

-- the tokens of a file of the program
abbrev pub tokens_in : List (Bor TypedUnit) → ℕ → List Token
tokens_in units file = if_there (slice_get units file) [] (λ u. u.now.unit.tokens.now)

-- a function of the program, with its closing brace
abbrev pub definition_in : List (Bor TypedUnit) → Defined → Definition
definition_in units f = record {
  place = f.place;
  body = f.body;
  close = closing_brace (tokens_in units f.file) (first_of f.body);
}
