-- Files that have a fault, and checkers that have a machine, from what their readers answer.
use Rattle.std.proofs.Common.{◌≡◌, ◌≤◌, ◌<◌, ℕ, ◌⊎◌, inl, inr, List, length, min, Option, refl, sym, ◌∙◌, subst, arith}
use Rattle.mx_io.specs.Reads.{Stands}
use Rattle.c_tree.specs.Symbol.{symbols_of}
use Rattle.c_lexer.specs.declared.c_reading.mode.Mode.{Mode}
use Rattle.c_lexer.specs.declared.c_reading.mode.Mode.TheVariants.{C, Metal}
use Rattle.c_lexer.specs.CReading.Strip.{stripped}
use Rattle.c_lexer.specs.Tokens.{TokenList}
use Rattle.metal_grammar.specs.Definition.{IsMachine}
use Rattle.metal_tree.specs.MetalMachines.Machine.{Machine}
use Rattle.metal_written.specs.Strings.{with_strings}
use Rattle.request_files.specs.declared.front_end.refusal.Faulty.{Faulty}
use Rattle.request_files.specs.declared.front_end.refusal.Refusal.{Refusal}
use Rattle.request_files.specs.declared.front_end.refusal.Refusal.TheVariants as refusals
use Rattle.request_files.specs.FrontEnd.Checkers.{HasNoMachine}
use Rattle.request_files.specs.FrontEnd.Found.{HasNoTokens}
use Rattle.request_files.specs.FrontEnd.Sources.{HasNoTrees, HasNoTypes}
use Rattle.request_files.specs.Lexed.{AreTokensOf}
use Rattle.request_files.specs.Meanings.{AreCheckerTokens, IsChecker}
use Rattle.request_files.specs.Faults.{HasFault, HasFaultIn, HasNoMeaning, HasNoUnitAt, Located, before_file, file_limit, mode_of}
use Rattle.request_files.specs.Ways.Stages.{AnswersStopped, AreKnown, IsAtStart, IsKnown, IsLocated, IsRefused, HasNoUnit, IsUnread}
use Rattle.request_files.specs.Turns.{Kind, CheckerFile, SourceFile, Turn}
use Rattle.request_files.specs.Views.{located_of}
use Rattle.request_files.specs.declared.fault.Fault.TheVariants as faults
use Rattle.request_files.specs.declared.fault.LocatedFault.{LocatedFault}
use Rattle.request_files.specs.declared.stopped.Stopped.{Stopped}
use Rattle.request_files.specs.declared.stopped.Stopped.TheVariants as stops
use Rattle.request_files.proofs.KnownFiles.{same_list, no_unit_named, no_machine_named}
use Rattle.request_files.proofs.Turns.{turn_of}

fits : (bytes : List ℕ) → length bytes ≤ 16777216 → length bytes ≤ min file_limit (length bytes)
fits bytes size = omega (arith, size)

-- the presumed file of a fault of reading is a name
pub tokens_known : (mode : Mode) (names : List (List ℕ)) (word bytes : List ℕ) (refusal : Refusal) → ((found : Faulty) → refusal ≡ refusals.Faulty found → HasNoTokens mode word names bytes found) → IsKnown names refusal
tokens_known mode names word bytes (refusals.Faulty found) r = let h = r found refl in (_, h.file)
tokens_known mode names word bytes refusals.NoMemory r = tt

-- ---- files of any kind

module _ (kind : Kind) (number : ℕ) (before names : List (List ℕ)) (word bytes : List ℕ) (size : length bytes ≤ 16777216) where
  pub located : (found : Faulty) (l : LocatedFault) → IsLocated names found.fault found.source found.line l
      → HasNoTokens (mode_of kind) word names bytes found ⊎ HasNoMeaning kind number word before names bytes found → HasFault (before_file (length bytes) before) (turn_of kind number word) bytes (located_of l)
  located found l i h =
      let text : HasFaultIn kind number word before bytes (located_of l) = record { names = names; found = found; faulty = h; fault_is = sym i.fault_is; file_is = i.file; line_is = sym i.line_is } in
      inr (fits bytes size, text)

  unread_by : (refusal : Refusal) (stop : Stopped)
      → ((found : Faulty) → refusal ≡ refusals.Faulty found → HasNoTokens (mode_of kind) word names bytes found ⊎ HasNoMeaning kind number word before names bytes found)
      → IsRefused names refusal stop → IsUnread (before_file (length bytes) before) (turn_of kind number word) bytes stop
  unread_by refusals.NoMemory stop r i = subst (IsUnread (before_file (length bytes) before) (turn_of kind number word) bytes) (sym i) tt
  unread_by (refusals.Faulty found) stops.NotRead r i = absurd i
  unread_by (refusals.Faulty found) (stops.Faulty l) r i = located found l i (r found refl)
  unread_by (refusals.Faulty found) stops.NoMemory r i = tt

  -- the bytes have no reading
  pub unread_tokens : (refusal : Refusal) (stop : Stopped) → ((found : Faulty) → refusal ≡ refusals.Faulty found → HasNoTokens (mode_of kind) word names bytes found)
      → IsRefused names refusal stop → IsUnread (before_file (length bytes) before) (turn_of kind number word) bytes stop
  unread_tokens refusal stop r i = unread_by refusal stop (λ found e. inl (r found e)) i

-- a file with a fault has it too where fewer bytes may come than it could have
pub still_faulty : (left : ℕ) (names : List (List ℕ)) (t : Turn) (bytes : List ℕ) (l : Located) → length bytes ≤ min file_limit left
    → HasFault (before_file (length bytes) names) t bytes l → HasFault (before_file left names) t bytes l
still_faulty left names t bytes l f (inl (large, e)) = absurd (omega (arith, f, large))
still_faulty left names t bytes l f (inr (small, h)) = inr (f, h)

-- a file that is too large has its fault where it begins
pub too_large : (told : Option (List ℕ)) (left : ℕ) (names : List (List ℕ)) (kind : Kind) (number : ℕ) (word : List ℕ) (stop : Stopped) → (bytes : List ℕ) × Stands told bytes × (min file_limit left < length bytes)
    → IsAtStart word faults.TooLarge stop → AnswersStopped told (before_file left names) (turn_of kind number word) stop
too_large told left names kind number word stops.NotRead f i = absurd i
too_large told left names kind number word (stops.Faulty l) (bytes, s, large) i = (bytes, s, inl (large, i))
too_large told left names kind number word stops.NoMemory f i = tt

-- what a file's bytes give, where so many may come
pub still_stopped : (told : Option (List ℕ)) (left : ℕ) (names : List (List ℕ)) (t : Turn) (bytes : List ℕ) (stop : Stopped) → Stands told bytes → length bytes ≤ min file_limit left
    → IsUnread (before_file (length bytes) names) t bytes stop → AnswersStopped told (before_file left names) t stop
still_stopped told left names t bytes stops.NotRead s f u = absurd u
still_stopped told left names t bytes (stops.Faulty l) s f u = (bytes, s, still_faulty left names t bytes (located_of l) f u)
still_stopped told left names t bytes stops.NoMemory s f u = tt

-- ---- C files

module _ (names : List (List ℕ)) (list kept : TokenList) (refusal : Refusal) (all : kept.all ≡ stripped list.all) (end : kept.end ≡ list.end)
    (none : (found : Faulty) → refusal ≡ refusals.Faulty found → HasNoTrees kept found ⊎ HasNoTypes kept found) where
  no_unit_at : (found : Faulty) → refusal ≡ refusals.Faulty found → HasNoUnitAt list found
  no_unit_at found e = subst (λ k. HasNoTrees k found ⊎ HasNoTypes k found) (same_list list kept all end) (none found e)

  pub unit_known : AreKnown names list → IsKnown names refusal
  unit_known k = by refusal refl
    where
      by : (r : Refusal) → refusal ≡ r → IsKnown names r
      by (refusals.Faulty found) e = no_unit_named names list found k (no_unit_at found e)
      by refusals.NoMemory e = tt

  pub has_no_unit : (stop : Stopped) → IsRefused names refusal stop → HasNoUnit names list stop
  has_no_unit stop i = by refusal stop refl i
    where
      by : (r : Refusal) (s : Stopped) → refusal ≡ r → IsRefused names r s → HasNoUnit names list s
      by refusals.NoMemory s e i = subst (HasNoUnit names list) (sym i) tt
      by (refusals.Faulty found) stops.NotRead e i = absurd i
      by (refusals.Faulty found) (stops.Faulty l) e i = (found, i, no_unit_at found e)
      by (refusals.Faulty found) stops.NoMemory e i = tt

-- the tokens have no trees, or these no types
pub unread_unit : (number : ℕ) (before names : List (List ℕ)) (word bytes : List ℕ) → length bytes ≤ 16777216 → (list : TokenList) (stop : Stopped)
    → AreTokensOf C number word before names bytes list → HasNoUnit names list stop → IsUnread (before_file (length bytes) before) (turn_of SourceFile number word) bytes stop
unread_unit number before names word bytes size list stops.NotRead t h = absurd h
unread_unit number before names word bytes size list (stops.Faulty l) t h = located SourceFile number before names word bytes size h.0 l h.1 (inr (list, t, h.2))
unread_unit number before names word bytes size list stops.NoMemory t h = tt

-- ---- checkers

pub machine_known : (names : List (List ℕ)) (list : TokenList) (refusal : Refusal) → AreKnown names list → ((found : Faulty) → refusal ≡ refusals.Faulty found → HasNoMachine names list found) → IsKnown names refusal
machine_known names list (refusals.Faulty found) k r = no_machine_named names list found k (r found refl)
machine_known names list refusals.NoMemory k r = tt

module _ (number : ℕ) (before names : List (List ℕ)) (word bytes : List ℕ) (size : length bytes ≤ 16777216)
    (read : List (List ℕ)) (list : TokenList) (tokens : AreTokensOf Metal number word before read bytes list) where
  checker_tokens : names ≡ with_strings read (symbols_of list.all) → AreCheckerTokens number word before names bytes list
  checker_tokens strings = record { read = read; tokens = tokens; named = strings }

  -- the tokens are a machine
  pub is_checker : (m : Machine) → names ≡ with_strings read (symbols_of list.all) → IsMachine names (symbols_of list.all) m → IsChecker number word before names bytes m
  is_checker m strings is = record { list = list; tokens = checker_tokens strings; is_machine = is }

  -- they are none
  pub unread_machine : (refusal : Refusal) (stop : Stopped) → (refusal ≡ refusals.NoMemory) ⊎ (names ≡ with_strings read (symbols_of list.all))
      → ((found : Faulty) → refusal ≡ refusals.Faulty found → HasNoMachine names list found) → IsRefused names refusal stop
      → IsUnread (before_file (length bytes) before) (turn_of CheckerFile number word) bytes stop
  unread_machine refusal stop strings none i = unread_by CheckerFile number before names word bytes size refusal stop (λ found e. by found e strings) i
    where
      by : (found : Faulty) → refusal ≡ refusals.Faulty found → (refusal ≡ refusals.NoMemory) ⊎ (names ≡ with_strings read (symbols_of list.all))
          → HasNoTokens Metal word names bytes found ⊎ HasNoMeaning CheckerFile number word before names bytes found
      by found e (inl m) = let x = sym m ∙ e in cc
      by found e (inr s) = inr (list, checker_tokens s, none found e)
