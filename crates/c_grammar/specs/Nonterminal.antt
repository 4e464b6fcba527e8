-- What a tree can stand for in the grammar.
use Rattle.std.specs.Prelude.{ℕ, Bool, true, false}
use Rattle.c_grammar.specs.Specifiers.{Place}

-- A declarator has a name (ISO 9899:1990, 6.5.4), has none (6.5.5), or is that of a parameter, which takes either.
pub data Form : Type 0 where
  WithName : Form
  Abstract : Form
  Either : Form

-- a name may stand in a declarator of this form
abbrev pub may_name : Form → Bool
may_name Abstract = false
may_name _ = true

-- and may be missing
abbrev pub may_omit : Form → Bool
may_omit WithName = false
may_omit _ = true

-- the number is the level
pub data Nonterminal : Type 0 where
  Expression : ℕ → Nonterminal
  Specifiers : Place → Nonterminal
  NameOfType : Nonterminal
  DeclaratorIn : Form → Nonterminal
  Parameter : Nonterminal
