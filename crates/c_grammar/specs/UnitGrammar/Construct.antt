-- What a tree can stand for among declarations and statements, and a reader of it.
use Rattle.std.specs.Prelude.{List, Option}
use Rattle.c_tree.specs.Symbol.{Symbol}
use Rattle.c_grammar.specs.Names.{Names}
use Rattle.c_grammar.specs.Specifiers.{Place}
use Rattle.c_grammar.specs.Found.{Found}

pub data Construct : Type 0 where
  -- specifiers, with bodies or without
  SpecifiersIn : Place → Construct
  -- one specifier that begins with `struct`, `union` or `enum`
  TaggedType : Construct
  -- one line of a body of a structure or union
  StructMember : Construct
  -- initial values in braces
  BracedInitials : Construct
  -- a declaration in a block
  BlockDeclaration : Construct
  OneStatement : Construct
  FunctionBody : Construct

-- Each step takes two readers of lower trees: that of expressions and declarators, and this one.
abbrev pub ConstructReader : Type 0
ConstructReader = Construct → Names → List Symbol → Option Found
