-- The reader over lists of symbols. It takes the names in force and gives none back: those behind a tree are `declared`.
use Rattle.std.specs.Prelude.{ℕ, zero, suc, List, Option, None}
use Rattle.c_tree.specs.Symbol.{Symbol}
use Rattle.c_tree.specs.Syntax.{Syntax}
use Rattle.c_grammar.specs.Names.{Names}
use Rattle.c_grammar.specs.Found.{◌>>=◌, Reader}
use Rattle.c_grammar.specs.Ways.SpecifierSteps.{read_specifiers}
use Rattle.c_grammar.specs.Reading.{read as read_expressions, ended}
use Rattle.c_grammar.specs.UnitGrammar.Construct.{SpecifiersIn, TaggedType, StructMember, BracedInitials, BlockDeclaration, OneStatement, FunctionBody, ConstructReader}
use Rattle.c_grammar.specs.Ways.TaggedSteps.{read_tagged, read_member}
use Rattle.c_grammar.specs.Ways.DeclarationSteps.{read_braces, read_declaration}
use Rattle.c_grammar.specs.Ways.StatementSteps.{read_block, read_statement}
use Rattle.c_grammar.specs.Ways.ChunkSteps.{read_chunk}

-- a tree of height at most m, whose expressions and declarators `reader` reads and whose other parts `inner`
abbrev pub read_construct : Reader → ConstructReader → ℕ → ConstructReader
read_construct reader inner m (SpecifiersIn place) names ts = read_specifiers (inner TaggedType names) m place names ts
read_construct reader inner m TaggedType names ts = read_tagged reader inner m names ts
read_construct reader inner m StructMember names ts = read_member reader inner m names ts
read_construct reader inner m BracedInitials names ts = read_braces reader inner m names ts
read_construct reader inner m BlockDeclaration names ts = read_declaration reader inner m names ts
read_construct reader inner m OneStatement names ts = read_statement reader inner m names ts
read_construct reader inner m FunctionBody names ts = read_block inner m names ts

-- a tree of height at most the first number, in front of the symbols
unfoldable pub read : ℕ → ConstructReader
read zero = λ construct names ts. None
read (suc n) = read_construct (read_expressions n) (read n) (suc n)

-- the tree of this chunk
abbrev pub chunk : Names → List Symbol → Option Syntax
chunk names ts = read_chunk (read_expressions 999) (read 999) 1000 names ts >>= ended
