-- Each tree of the grammar is read.
use Rattle.std.proofs.Common.{ℕ, zero, suc, ◌<◌, arith}
use Rattle.c_tree.specs.Syntax.{Syntax, Initializer, Specifier, Outer, Statement, Iteration, Jump, Braces, Specs, StructTag, StructDeclaration, Declaration, Empty, Block, While, Continue}
use Rattle.c_tree.specs.Height.{height_of}
use Rattle.c_grammar.specs.Names.{Names}
use Rattle.c_grammar.specs.Reading.{read as read_expressions}
use Rattle.c_grammar.proofs.Complete.{read-complete as expressions-complete}
use Rattle.c_grammar.specs.UnitGrammar.Construct.{Construct, SpecifiersIn, TaggedType, StructMember, BracedInitials, BlockDeclaration, OneStatement, FunctionBody}
use Rattle.c_grammar.specs.UnitGrammar.Grammar.{IsOf}
use Rattle.c_grammar.specs.UnitGrammar.Reading.{read}
use Rattle.c_grammar.proofs.UnitGrammar.Readers.{Knows}
use Rattle.c_grammar.proofs.UnitGrammar.CompleteTagged.{tagged-complete, member-complete, specifiers-complete}
use Rattle.c_grammar.proofs.UnitGrammar.CompleteDeclarations.{braces-complete, declaration-complete}
use Rattle.c_grammar.proofs.UnitGrammar.CompleteStatements.{block-complete, statement-complete}

-- no tree of the grammar has height zero
positive : (construct : Construct) (names : Names) (e : Syntax) → IsOf construct names e → 0 < height_of e
positive (SpecifiersIn place) names (Specifier (Specs items)) w = omega arith
positive TaggedType names (Specifier (StructTag which tag)) w = omega arith
positive TaggedType names (Specifier _) w = omega arith
positive StructMember names (Outer Empty) w = omega arith
positive StructMember names (Specifier (StructDeclaration specs declarators)) w = omega arith
positive StructMember names (Specifier _) w = absurd w
positive BracedInitials names (Initializer (Braces elements comma)) w = omega arith
positive BlockDeclaration names (Outer (Declaration specs declarators)) w = omega arith
positive OneStatement names (Statement (Block items)) w = omega arith
positive OneStatement names (Statement _) w = omega arith
positive OneStatement names (Iteration (While condition body)) w = omega arith
positive OneStatement names (Iteration _) w = omega arith
positive OneStatement names (Jump Continue) w = omega arith
positive OneStatement names (Jump _) w = omega arith
positive FunctionBody names (Statement (Block items)) w = omega arith
positive _ names _ w = absurd w

pub read-complete : (n : ℕ) → Knows (read n) n
unfolding read
read-complete zero construct names e r w h s = let p = positive construct names e w in absurd (omega arith)
read-complete (suc n) (SpecifiersIn place) names e r w h s = specifiers-complete (read n) n place names e r (read-complete n) w h s.0 s.1
read-complete (suc n) TaggedType names e r w h s = tagged-complete (read_expressions n) (read n) n names e r (expressions-complete n) (read-complete n) w h s
read-complete (suc n) StructMember names e r w h s = member-complete (read_expressions n) (read n) n names e r (expressions-complete n) (read-complete n) w h
read-complete (suc n) BracedInitials names e r w h s = braces-complete (read_expressions n) (read n) n names e r (expressions-complete n) (read-complete n) w h
read-complete (suc n) BlockDeclaration names e r w h s = declaration-complete (read_expressions n) (read n) n names e r (expressions-complete n) (read-complete n) w h
read-complete (suc n) OneStatement names e r w h s = statement-complete (read_expressions n) (read n) n names e r (expressions-complete n) (read-complete n) w h s
read-complete (suc n) FunctionBody names e r w h s = block-complete (read n) n names e r (read-complete n) w h
