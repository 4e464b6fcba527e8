-- The words of the command, and the request that a list of words stands for. A word is the list of its bytes.
use Rattle.std.specs.Prelude.{◌≡◌, ℕ, ◌+◌, ◌-◌, Bool, true, false, ◌&&◌, not, cond, nat_le, List, [], ◌∷◌, ◌++◌, length, drop, ◌==◌, codes, Option, None, Some, unwrap_or}
use Rattle.std.specs.List.{list_any, list_all, flat_map}
use Rattle.std.specs.Str.{bytes_eq}
use Rattle.mx_io.specs.Bytes.{Bytes, Words}

abbrev pub starts_with_minus : Bytes → Bool
starts_with_minus [] = false
starts_with_minus (b ∷ _) = b == 45

-- it begins with a minus sign, and isn't that alone
abbrev pub is_option : Bytes → Bool
is_option [] = false
is_option (b ∷ []) = false
is_option (b ∷ _ ∷ _) = b == 45

-- a word whose last six bytes are `.metal` names a checker; every other names a C file
abbrev pub is_checker_word : Bytes → Bool
is_checker_word word = nat_le 6 (length word) && bytes_eq (drop (length word - 6) word) (codes ".metal")

abbrev pub is_source_word : Bytes → Bool
is_source_word word = not (is_checker_word word)

-- at most 16 checkers, and 1 to 64 C files
abbrev pub are_counts : ℕ → ℕ → Bool
are_counts checkers sources = nat_le checkers 16 && (nat_le 1 sources && nat_le sources 64)

-- how many of the words pass the test
abbrev pub counted : (Bytes → Bool) → Words → ℕ
counted test [] = 0
counted test (word ∷ words) = cond (test word) 1 0 + counted test words

abbrev pub are_few : Words → Bool
are_few files = are_counts (counted is_checker_word files) (counted is_source_word files)

-- what can be set, with how it is spelled: the value in a word of its own, or behind a `=`; a depth by its digit
pub data Setting : Type 0 where
  DepthApart : ℕ → Setting
  DepthJoined : ℕ → Setting
  FormatApart : Bytes → Setting
  FormatJoined : Bytes → Setting
  Stats : Setting

abbrev pub spelled : Setting → Words
spelled (DepthApart digit) = codes "--depth" ∷ (digit ∷ []) ∷ []
spelled (DepthJoined digit) = (codes "--depth=" ++ (digit ∷ [])) ∷ []
spelled (FormatApart name) = codes "--format" ∷ name ∷ []
spelled (FormatJoined name) = (codes "--format=" ++ name) ∷ []
spelled Stats = codes "--stats" ∷ []

-- a digit from `0` to `8`
abbrev pub is_depth_digit : ℕ → Bool
is_depth_digit b = nat_le 48 b && nat_le b 56

-- a value in a word of its own doesn't begin with a minus sign
abbrev pub is_setting : Setting → Bool
is_setting (DepthApart digit) = is_depth_digit digit
is_setting (DepthJoined digit) = is_depth_digit digit
is_setting (FormatApart name) = not (starts_with_minus name)
is_setting (FormatJoined name) = true
is_setting Stats = true

-- the depths that are set, one for each time
abbrev pub depths : List Setting → List ℕ
depths [] = []
depths (DepthApart digit ∷ settings) = (digit - 48) ∷ depths settings
depths (DepthJoined digit ∷ settings) = (digit - 48) ∷ depths settings
depths (FormatApart name ∷ settings) = depths settings
depths (FormatJoined name ∷ settings) = depths settings
depths (Stats ∷ settings) = depths settings

-- the formats that are set, one for each time
abbrev pub formats : List Setting → List Bytes
formats [] = []
formats (DepthApart digit ∷ settings) = formats settings
formats (DepthJoined digit ∷ settings) = formats settings
formats (FormatApart name ∷ settings) = name ∷ formats settings
formats (FormatJoined name ∷ settings) = name ∷ formats settings
formats (Stats ∷ settings) = formats settings

-- a `true` for each time that statistics are asked for
abbrev pub marks : List Setting → List Bool
marks [] = []
marks (DepthApart digit ∷ settings) = marks settings
marks (DepthJoined digit ∷ settings) = marks settings
marks (FormatApart name ∷ settings) = marks settings
marks (FormatJoined name ∷ settings) = marks settings
marks (Stats ∷ settings) = true ∷ marks settings

-- the one that is set, if any is, and none is set twice
abbrev pub IsOnly : {A : Type 0} → List A → Option A → Type 0
IsOnly [] chosen = chosen ≡ None
IsOnly (one ∷ []) chosen = chosen ≡ Some one
IsOnly (one ∷ other ∷ _) chosen = ⊥

-- the depth where none is set
abbrev pub depth_or_usual : Option ℕ → ℕ
depth_or_usual depth = unwrap_or depth 4

abbrev pub is_marked : Option Bool → Bool
is_marked None = false
is_marked (Some mark) = mark

-- what stands between the settings and the files
abbrev pub divider : Bool → Words
divider true = codes "--" ∷ []
divider false = []

-- what words ask for: how deep, in which format by its name, with statistics or not, and of which files
pub record Request : Type 0 where
  pub depth : ℕ
  pub format : Option Bytes
  pub stats : Bool
  pub files : Words

-- the words stand for the request: they are the spellings of settings, each kind set at most once, then `--` or nothing, then the files, of which
-- none is an option unless `--` stands before them
pub record IsRequest (words : Words) (request : Request) : Type 0 where
  pub settings : List Setting
  pub divided : Bool
  pub whole : words ≡ flat_map spelled settings ++ (divider divided ++ request.files)
  pub right : list_all is_setting settings ≡ true
  pub plain : divided ≡ false → list_any is_option request.files ≡ false
  pub few : are_few request.files ≡ true
  pub chosen_depth : Option ℕ
  pub one_depth : IsOnly (depths settings) chosen_depth
  pub depth : request.depth ≡ depth_or_usual chosen_depth
  pub format : IsOnly (formats settings) request.format
  pub chosen_mark : Option Bool
  pub one_mark : IsOnly (marks settings) chosen_mark
  pub stats : request.stats ≡ is_marked chosen_mark
