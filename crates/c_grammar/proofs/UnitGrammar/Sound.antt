-- What is read is a tree of the grammar.
use Rattle.std.proofs.Common.{ℕ, zero, suc}
use Rattle.c_grammar.specs.Reading.{read as read_expressions}
use Rattle.c_grammar.proofs.Sound.{read-sound as expressions-sound}
use Rattle.c_grammar.specs.UnitGrammar.Construct.{SpecifiersIn, TaggedType, StructMember, BracedInitials, BlockDeclaration, OneStatement, FunctionBody}
use Rattle.c_grammar.specs.UnitGrammar.Reading.{read}
use Rattle.c_grammar.proofs.UnitGrammar.Readers.{IsSound}
use Rattle.c_grammar.proofs.UnitGrammar.SoundTagged.{tagged-sound, member-sound, specifiers-sound}
use Rattle.c_grammar.proofs.UnitGrammar.SoundDeclarations.{braces-sound, declaration-sound}
use Rattle.c_grammar.proofs.UnitGrammar.SoundStatements.{block-sound, statement-sound}

pub read-sound : (n : ℕ) → IsSound (read n) n
unfolding read
read-sound zero construct names ts e r h = cc
read-sound (suc n) (SpecifiersIn place) names ts e r h = specifiers-sound (read n) n (suc n) place names ts e r (read-sound n) h
read-sound (suc n) TaggedType names ts e r h = tagged-sound (read_expressions n) (read n) n (suc n) names ts e r (expressions-sound n) (read-sound n) h
read-sound (suc n) StructMember names ts e r h = member-sound (read_expressions n) (read n) n (suc n) names ts e r (expressions-sound n) (read-sound n) h
read-sound (suc n) BracedInitials names ts e r h = braces-sound (read_expressions n) (read n) n (suc n) names ts e r (expressions-sound n) (read-sound n) h
read-sound (suc n) BlockDeclaration names ts e r h = declaration-sound (read_expressions n) (read n) n (suc n) names ts e r (expressions-sound n) (read-sound n) h
read-sound (suc n) OneStatement names ts e r h = statement-sound (read_expressions n) (read n) n (suc n) names ts e r (expressions-sound n) (read-sound n) h
read-sound (suc n) FunctionBody names ts e r h = block-sound (read n) n (suc n) names ts e r (read-sound n) h
