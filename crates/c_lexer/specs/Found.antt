-- What the parts of the lexer give, seen by the definition.
use Rattle.std.specs.Prelude.{◌≡◌, ◌≤◌, ℕ, List, [], ◌∷◌, length, Option, None, Some, take, option_map}
use Rattle.c_tree.specs.declared.punctuator.Punctuator.{Punctuator}
use Rattle.c_lexer.specs.declared.c_reading.mode.Mode.{Mode}
use Rattle.c_lexer.specs.CReading.Punctuators.{punctuator_of}
use Rattle.c_lexer.specs.CReading.Spellings.{kind_of}
use Rattle.c_lexer.specs.CReading.Markers.{unescaped}
use Rattle.c_lexer.specs.CReading.Markers as markers
use Rattle.c_lexer.specs.Ways.Cutting.{punctuator_len, pair_len}
use Rattle.c_lexer.specs.declared.markers.Marker.{Marker}
use Rattle.c_lexer.specs.declared.markers.Marker.TheVariants.{Skipped, Renumbers}
use Rattle.c_lexer.specs.declared.spellings.Spelled.{Spelled}

-- the longest of these two bytes that is a punctuator
abbrev pub GivesShort : Mode → ℕ → ℕ → Option (ℕ × Punctuator) → Type 0
GivesShort mode a b None = pair_len mode a b ≡ 0
GivesShort mode a b (Some found) = (pair_len mode a b ≡ found.0) × (punctuator_of mode (take found.0 (a ∷ b ∷ [])) ≡ Some found.1) × (1 ≤ found.0) × (found.0 ≤ 2)

-- the longest punctuator in front, with its length
abbrev pub GivesPunctuator : Mode → List ℕ → Option (ℕ × Punctuator) → Type 0
GivesPunctuator mode bs None = punctuator_len mode bs ≡ 0
GivesPunctuator mode bs (Some found) = (punctuator_len mode bs ≡ found.0) × (punctuator_of mode (take found.0 bs) ≡ Some found.1) × (1 ≤ found.0) × (found.0 ≤ length bs)

-- what is taken in front, if the first n bytes are the longest spelling
abbrev pub GivesSpelling : Mode → List ℕ → ℕ → Option Spelled → Type 0
GivesSpelling mode bs n None = n ≡ 0
GivesSpelling mode bs n (Some s) = (n ≡ s.len) × (1 ≤ s.len) × (s.len ≤ length bs) × (kind_of mode (take s.len bs) ≡ s.kind)

-- what a marker says, with the file's name as it is meant
abbrev pub marker_view : Marker → markers.Marker
marker_view Skipped = markers.Skipped
marker_view (Renumbers line file) = markers.Renumbers line (option_map (λ f. unescaped f.now) file)

-- the byte in front
abbrev pub BeginsWith : ℕ → List ℕ → Type 0
BeginsWith b [] = ⊥
BeginsWith b (c ∷ cs) = c ≡ b

-- the number that a marker gives to the following line, if it gives one
abbrev pub following_line : Marker → ℕ
following_line Skipped = 0
following_line (Renumbers line file) = line
