-- The names in force at a place, and those to which each open scope goes back, the innermost first.
use Rattle.std.specs.Prelude.{List}
use Rattle.c_grammar.specs.Names.{Names}

pub record Scopes : Type 0 where
  pub now : Names
  pub saved : List Names
