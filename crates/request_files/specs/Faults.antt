-- FAULTS OF FILES, with the presumed file and line of their places, and the lines that tell them.
use Rattle.std.specs.Prelude.{◌≡◌, ◌⊎◌, ℕ, ◌<◌, ◌≤◌, min, List, [], ◌∷◌, ◌++◌, length, codes, Some, slice_get}
use Rattle.std.specs.Fmt.{decimal}
use Rattle.c_lexer.specs.CReading.Strip.{stripped}
use Rattle.c_lexer.specs.Tokens.{TokenList}
use Rattle.c_lexer.specs.declared.c_reading.mode.Mode.{Mode}
use Rattle.c_lexer.specs.declared.c_reading.mode.Mode.TheVariants.{C, Metal}
use Rattle.mx_io.specs.Bytes.{Bytes}
use Rattle.request_files.specs.FrontEnd.Checkers.{HasNoMachine}
use Rattle.request_files.specs.FrontEnd.Found.{HasNoTokens}
use Rattle.request_files.specs.FrontEnd.Sources.{HasNoTrees, HasNoTypes}
use Rattle.request_files.specs.Lexed.{AreTokensOf}
use Rattle.request_files.specs.Meanings.{AreCheckerTokens}
use Rattle.request_files.specs.Turns.{Kind, CheckerFile, SourceFile, Turn}
use Rattle.request_files.specs.declared.fault.Fault.{Fault}
use Rattle.request_files.specs.declared.fault.Fault.TheVariants as faults
use Rattle.request_files.specs.declared.front_end.refusal.Faulty.{Faulty}

-- a fault with its presumed file and line
pub record Located : Type 0 where
  pub fault : Fault
  pub file : Bytes
  pub line : ℕ

-- a fault of a whole file stands where the file begins
abbrev pub at_start : Bytes → Fault → Located
at_start word fault = record { fault = fault; file = word; line = 1 }

abbrev pub fault_name : Fault → Bytes
fault_name faults.TooLarge = codes "TooLarge"
fault_name faults.BadByte = codes "BadByte"
fault_name faults.OpenText = codes "OpenText"
fault_name faults.BadNumber = codes "BadNumber"
fault_name faults.BadMarker = codes "BadMarker"
fault_name faults.Syntax = codes "Syntax"
fault_name faults.Undeclared = codes "Undeclared"
fault_name faults.NoField = codes "NoField"
fault_name faults.Redeclared = codes "Redeclared"
fault_name faults.NotPointer = codes "NotPointer"
fault_name faults.NotStruct = codes "NotStruct"
fault_name faults.NotFunction = codes "NotFunction"
fault_name faults.NotLvalue = codes "NotLvalue"
fault_name faults.TooMany = codes "TooMany"
fault_name faults.Twice = codes "Twice"
fault_name faults.UnknownCallout = codes "UnknownCallout"
fault_name faults.TwoVariables = codes "TwoVariables"
fault_name faults.BadSplit = codes "BadSplit"
fault_name faults.BadSource = codes "BadSource"
fault_name faults.VariableMissing = codes "VariableMissing"
fault_name faults.BadFormat = codes "BadFormat"
fault_name faults.DuplicateFunction = codes "DuplicateFunction"

abbrev pub refused_line : Located → Bytes
refused_line l = l.file ++ (58 ∷ (decimal l.line ++ (codes ": refused: " ++ (fault_name l.fault ++ 10 ∷ []))))

-- at most so many bytes in one file, and in all files together
abbrev pub file_limit : ℕ
file_limit = 16777216

abbrev pub total_limit : ℕ
total_limit = 33554432

-- the tokens of a file without those that are dropped, and its end
abbrev pub without_dropped : TokenList → TokenList
without_dropped list = record { all = stripped list.all; end = list.end }

-- these tokens have no trees, or their trees have no types
abbrev pub HasNoUnitAt : TokenList → Faulty → Type 0
HasNoUnitAt list found = HasNoTrees (without_dropped list) found ⊎ HasNoTypes (without_dropped list) found

-- how the bytes of a file are read
abbrev pub mode_of : Kind → Mode
mode_of CheckerFile = Metal
mode_of SourceFile = C

-- the bytes have tokens, behind which these names stand, and this is the first fault of the tokens: those of a checker are no machine, those of
-- a C file no unit
abbrev pub HasNoMeaning : Kind → ℕ → Bytes → List Bytes → List Bytes → Bytes → Faulty → Type 0
HasNoMeaning CheckerFile number word before names bytes found = (list : TokenList) × AreCheckerTokens number word before names bytes list × HasNoMachine names list found
HasNoMeaning SourceFile number word before names bytes found = (list : TokenList) × AreTokensOf C number word before names bytes list × HasNoUnitAt list found

-- the bytes of a file have this fault first, on this line of this presumed file, where these names stand before the file
pub record HasFaultIn (kind : Kind) (number : ℕ) (word : Bytes) (before : List Bytes) (bytes : Bytes) (l : Located) : Type 0 where
  pub names : List Bytes
  pub found : Faulty
  pub faulty : HasNoTokens (mode_of kind) word names bytes found ⊎ HasNoMeaning kind number word before names bytes found
  pub fault_is : found.fault ≡ l.fault
  pub file_is : slice_get names found.source ≡ Some l.file
  pub line_is : found.line ≡ l.line

-- what files leave for the next one: how many bytes may still come, and the names so far
pub record Before : Type 0 where
  pub left : ℕ
  pub names : List Bytes

abbrev pub before_file : ℕ → List Bytes → Before
before_file left names = record { left = left; names = names }

-- THE FAULT OF A FILE: it is too large, or its bytes have the fault
abbrev pub HasFault : Before → Turn → Bytes → Located → Type 0
HasFault b t bytes l =
    ((min file_limit b.left < length bytes) × (l ≡ at_start t.word faults.TooLarge)) ⊎ ((length bytes ≤ min file_limit b.left) × HasFaultIn t.kind t.number t.word b.names bytes l)
