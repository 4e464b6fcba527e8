-- What stands around a statement.
use Rattle.std.specs.Prelude.{ℕ, List}
use Rattle.c_grammar.specs.UnitGrammar.Control.{Surroundings}
use Rattle.c_parser.specs.declared.control.Around.{Around}

abbrev pub surroundings : Around → List ℕ → Surroundings
surroundings around labels = record { loop = around.in_loop; switch = around.in_switch; known = labels }
