-- WHAT FILES MEAN: a checker's is a machine, a C file's a text. The names before a file are given, and those behind it follow.
use Rattle.std.specs.Prelude.{◌≡◌, ◌+◌, ℕ, List, [], ◌∷◌}
use Rattle.c_lexer.specs.declared.c_reading.mode.Mode.TheVariants.{C, Metal}
use Rattle.c_lexer.specs.CReading.Strip.{stripped}
use Rattle.c_lexer.specs.Tokens.{TokenList}
use Rattle.c_tree.specs.Symbol.{symbols_of}
use Rattle.type_rules.specs.Unit.{table_by}
use Rattle.typed_unit.specs.Texts.{Text}
use Rattle.mx_io.specs.Bytes.{Bytes, Words}
use Rattle.request_files.specs.FrontEnd.Sources.{AreTypedTrees}
use Rattle.metal_grammar.specs.Words.{Spelling}
use Rattle.metal_grammar.specs.Definition.{IsMachine}
use Rattle.metal_tree.specs.MetalMachines.Machine.{Machine}
use Rattle.request_files.specs.Turns.{Kind, CheckerFile, SourceFile}
use Rattle.request_files.specs.Lexed.{AreTokensOf}
use Rattle.metal_written.specs.Strings.{with_strings}

-- the bytes of the C file with this number are the text
pub record IsSource (number : ℕ) (word : Bytes) (before names : List Bytes) (bytes : Bytes) (t : Text) : Type 0 where
  pub list : TokenList
  pub tokens : AreTokensOf C number word before names bytes list
  pub kept : t.tokens ≡ stripped list.all
  pub typed : AreTypedTrees (stripped list.all) t.trees
  pub table : t.table ≡ table_by t.trees

-- the bytes of the checker with this number have these tokens; behind their names come the contents of their strings
pub record AreCheckerTokens (number : ℕ) (word : Bytes) (before names : Spelling) (bytes : Bytes) (list : TokenList) : Type 0 where
  pub read : Spelling
  pub tokens : AreTokensOf Metal number word before read bytes list
  pub named : names ≡ with_strings read (symbols_of list.all)

-- and are this machine
pub record IsChecker (number : ℕ) (word : Bytes) (before names : Spelling) (bytes : Bytes) (machine : Machine) : Type 0 where
  pub list : TokenList
  pub tokens : AreCheckerTokens number word before names bytes list
  pub is_machine : IsMachine names (symbols_of list.all) machine

-- these checkers, of which the first has this number, have these machines; the names behind each are those before the next
abbrev pub HaveMachines : ℕ → Spelling → Spelling → Words → List Bytes → List Machine → Type 0
HaveMachines number before names [] [] [] = names ≡ before
HaveMachines number before names (word ∷ words) (b ∷ bs) (m ∷ ms) = (middle : Spelling) × IsChecker number word before middle b m × HaveMachines (number + 1) middle names words bs ms
HaveMachines number before names _ _ _ = ⊥

-- these C files have these texts
abbrev pub HaveTexts : ℕ → List Bytes → List Bytes → Words → List Bytes → List Text → Type 0
HaveTexts number before names [] [] [] = names ≡ before
HaveTexts number before names (word ∷ words) (b ∷ bs) (t ∷ ts) = (middle : List Bytes) × IsSource number word before middle b t × HaveTexts (number + 1) middle names words bs ts
HaveTexts number before names _ _ _ = ⊥

-- A FILE WITHOUT FAULT has a machine, or a text
abbrev pub IsFine : Kind → ℕ → Bytes → List Bytes → List Bytes → Bytes → Type 0
IsFine CheckerFile number word before names bytes = (m : Machine) × IsChecker number word before names bytes m
IsFine SourceFile number word before names bytes = (t : Text) × IsSource number word before names bytes t
