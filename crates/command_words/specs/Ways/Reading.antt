-- Equal to `Words`, by reading one word after the other.
-- The words of the command read one after the other.
use Rattle.std.specs.Prelude.{ℕ, ◌-◌, Bool, true, false, cond, [], ◌∷◌, length, drop, take, codes, Option, None, Some}
use Rattle.std.specs.List.{list_any}
use Rattle.std.specs.Str.{bytes_eq}
use Rattle.mx_io.specs.Bytes.{Bytes, Words}
use Rattle.command_words.specs.declared.given.Waits.{Waits}
use Rattle.command_words.specs.declared.given.Waits.TheVariants.{ForOption, ForDepth, ForFormat}
use Rattle.command_words.specs.Words.{starts_with_minus, is_option, is_depth_digit, are_few, depth_or_usual, Request}

-- what was set so far, and what the next word is to be
pub record Chosen : Type 0 where
  pub waits : Waits
  pub depth : Option ℕ
  pub format : Option Bytes
  pub stats : Bool

abbrev pub chosen : Waits → Option ℕ → Option Bytes → Bool → Chosen
chosen waits depth format stats = record { waits = waits; depth = depth; format = format; stats = stats }

-- what a word is behind what was set so far: one more setting or a part of one, a FILE, the end of the options, or wrong there
pub data Turn : Type 0 where
  Next : Chosen → Turn
  File : Turn
  End : Turn
  Wrong : Turn

-- the depth that a word spells
abbrev pub depth_of : Bytes → Option ℕ
depth_of [] = None
depth_of (b ∷ []) = cond (is_depth_digit b) (Some (b - 48)) None
depth_of (b ∷ _ ∷ _) = None

abbrev pub depth_turn : Option ℕ → Option Bytes → Bool → Option ℕ → Turn
depth_turn None format stats None = Wrong
depth_turn None format stats (Some depth) = Next (chosen ForOption (Some depth) format stats)
depth_turn (Some before) format stats depth = Wrong

abbrev pub format_turn : Option ℕ → Option Bytes → Bool → Bytes → Turn
format_turn depth None stats name = Next (chosen ForOption depth (Some name) stats)
format_turn depth (Some before) stats name = Wrong

abbrev pub stats_turn : Option ℕ → Option Bytes → Bool → Turn
stats_turn depth format false = Next (chosen ForOption depth format true)
stats_turn depth format true = Wrong

-- the value comes in the next word
abbrev pub turn_for : Waits → Option ℕ → Option Bytes → Bool → Turn
turn_for waits depth format stats = Next (chosen waits depth format stats)

-- what stands behind the start of a word
abbrev pub behind : Bytes → Bytes → Option Bytes
behind start word = cond (bytes_eq (take (length start) word) start) (Some (drop (length start) word)) None

abbrev pub joined_format : Option ℕ → Option Bytes → Bool → Option Bytes → Turn
joined_format depth format stats None = Wrong
joined_format depth format stats (Some name) = format_turn depth format stats name

abbrev pub joined_depth : Option ℕ → Option Bytes → Bool → Option Bytes → Turn → Turn
joined_depth depth format stats None other = other
joined_depth depth format stats (Some value) other = depth_turn depth format stats (depth_of value)

-- an option with its value behind a `=`
abbrev pub joined_turn : Option ℕ → Option Bytes → Bool → Bytes → Turn
joined_turn depth format stats word =
    joined_depth depth format stats (behind (codes "--depth=") word) (joined_format depth format stats (behind (codes "--format=") word))

abbrev pub option_turn : Option ℕ → Option Bytes → Bool → Bytes → Turn
option_turn depth format stats word =
    cond (bytes_eq word (codes "--")) End
    (cond (bytes_eq word (codes "--stats")) (stats_turn depth format stats)
    (cond (bytes_eq word (codes "--depth")) (turn_for ForDepth depth format stats)
    (cond (bytes_eq word (codes "--format")) (turn_for ForFormat depth format stats)
    (joined_turn depth format stats word))))

abbrev pub turn : Waits → Option ℕ → Option Bytes → Bool → Bytes → Turn
turn ForOption depth format stats word = cond (is_option word) (option_turn depth format stats word) File
turn ForDepth depth format stats word = depth_turn depth format stats (depth_of word)
turn ForFormat depth format stats word = cond (starts_with_minus word) Wrong (format_turn depth format stats word)

abbrev pub turn_of : Chosen → Bytes → Turn
turn_of c word = turn c.waits c.depth c.format c.stats word

abbrev pub asked : ℕ → Option Bytes → Bool → Words → Request
asked depth format stats files = record { depth = depth; format = format; stats = stats; files = files }

-- the request for these files, if their numbers are right
abbrev pub finished : Chosen → Words → Option Request
finished c files = cond (are_few files) (Some (asked (depth_or_usual c.depth) c.format c.stats files)) None

-- the same where no `--` stands before the files
abbrev pub plainly_finished : Chosen → Words → Option Request
plainly_finished c files = cond (list_any is_option files) None (finished c files)

-- what a word and those behind it come to, where these can be read behind what is set next
abbrev pub turned : (Chosen → Option Request) → Chosen → Bytes → Words → Turn → Option Request
turned read c word words (Next next) = read next
turned read c word words File = plainly_finished c (word ∷ words)
turned read c word words End = finished c words
turned read c word words Wrong = None

-- the words that are left, read behind what was set so far
abbrev pub reading : Chosen → Words → Option Request
reading c [] = None
reading c (word ∷ words) = turned (λ next. reading next words) c word words (turn_of c word)

-- before the first word
abbrev pub nothing_chosen : Chosen
nothing_chosen = chosen ForOption None None false
