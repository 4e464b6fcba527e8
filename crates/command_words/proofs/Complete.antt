-- The words of a request are read as it.
use Rattle.std.proofs.Common.{◌≡◌, ℕ, ◌-◌, Bool, true, false, cond, not, ◌&&◌, ◌||◌, List, [], ◌∷◌, ◌++◌, Option, None, Some, codes, ap, refl, sym, ◌∙◌, true≢false}
use Rattle.std.specs.List.{list_any, list_all, flat_map}
use Rattle.mx_io.specs.Bytes.{Bytes, Words}
use Rattle.command_words.specs.declared.given.Waits.TheVariants.{ForOption, ForDepth, ForFormat}
use Rattle.command_words.specs.Words.{Setting, DepthApart, DepthJoined, FormatApart, FormatJoined, Stats, spelled, is_setting, is_depth_digit, is_option, starts_with_minus, are_few, depths, formats, marks, IsOnly, depth_or_usual, is_marked, divider, Request, IsRequest}
use Rattle.command_words.specs.Ways.Reading.{Chosen, chosen, turned, turn_of, depth_turn, format_turn, option_turn, reading, asked, finished, plainly_finished, nothing_chosen}
use Rattle.command_words.specs.Ways.Reading as steps

-- what was set before, as a list
abbrev pub listed : {A : Type 0} → Option A → List A
listed None = []
listed (Some one) = one ∷ []

abbrev pub flag : Bool → List Bool
flag false = []
flag true = true ∷ []

pub both_true : (a b : Bool) → (a && b) ≡ true → (a ≡ true) × (b ≡ true)
both_true true b h = (refl, h)
both_true false b h = absurd (true≢false (sym h))

pub both_false : (a b : Bool) → (a || b) ≡ false → a ≡ false
both_false true b h = h
both_false false b h = refl

not_true : (a : Bool) → not a ≡ true → a ≡ false
not_true true h = sym h
not_true false h = refl

only_end : {A : Type 0} (before : Option A) (one : Option A) → IsOnly (listed before ++ []) one → before ≡ one
only_end None one h = sym h
only_end (Some x) one h = sym h

flag_end : (before : Bool) (mark : Option Bool) → IsOnly (flag before ++ []) mark → before ≡ is_marked mark
flag_end false mark h = sym (ap is_marked h)
flag_end true mark h = sym (ap is_marked h)

finished_here : (d : Option ℕ) (f : Option Bytes) (s : Bool) (files : Words) (n : ℕ) (o : Option Bytes) (t : Bool) → are_few files ≡ true → depth_or_usual d ≡ n → f ≡ o → s ≡ t
    → finished (chosen ForOption d f s) files ≡ Some (asked n o t files)
finished_here d f s files n o t few a b c =
    ap (λ q. cond q (Some (asked (depth_or_usual d) f s files)) None) few
    ∙ ap (λ x. Some (asked x f s files)) a ∙ ap (λ x. Some (asked n x s files)) b ∙ ap (λ x. Some (asked n o x files)) c

-- the files alone
files_here : (divided : Bool) (d : Option ℕ) (f : Option Bytes) (s : Bool) (files : Words) (r : Request) → are_few files ≡ true
    → (divided ≡ false → list_any is_option files ≡ false) → finished (chosen ForOption d f s) files ≡ Some r
    → reading (chosen ForOption d f s) (divider divided ++ files) ≡ Some r
files_here true d f s files r few plain h = h
files_here false d f s [] r few plain h = absurd (true≢false (sym few))
files_here false d f s (w ∷ ws) r few plain h =
    ap (λ b. turned (λ m. reading m ws) (chosen ForOption d f s) w ws (cond b (option_turn d f s w) steps.File)) (both_false (is_option w) (list_any is_option ws) (plain refl))
    ∙ ap (λ b. cond b None (finished (chosen ForOption d f s) (w ∷ ws))) (plain refl) ∙ h

module _ (divided : Bool) (files : Words) (n : ℕ) (o : Option Bytes) (t : Bool) (cd : Option ℕ) (cm : Option Bool)
    (plain : divided ≡ false → list_any is_option files ≡ false) (few : are_few files ≡ true) (depth : n ≡ depth_or_usual cd) (stats : t ≡ is_marked cm) where
  pub read_whole : (settings : List Setting) (d : Option ℕ) (f : Option Bytes) (s : Bool) → list_all is_setting settings ≡ true
      → IsOnly (listed d ++ depths settings) cd → IsOnly (listed f ++ formats settings) o → IsOnly (flag s ++ marks settings) cm
      → reading (chosen ForOption d f s) (flat_map spelled settings ++ (divider divided ++ files)) ≡ Some (asked n o t files)
  read_whole [] d f s right a b c =
      files_here divided d f s files (asked n o t files) few plain
      (finished_here d f s files n o t few (ap depth_or_usual (only_end d cd a) ∙ sym depth) (only_end f o b) (flag_end s cm c ∙ sym stats))
  read_whole (DepthApart digit ∷ settings) (Some x) f s right a b c = absurd a
  read_whole (DepthApart digit ∷ settings) None f s right a b c =
      let both = both_true (is_depth_digit digit) (list_all is_setting settings) right in
      let rest = flat_map spelled settings ++ (divider divided ++ files) in
      ap (λ q. turned (λ m. reading m rest) (chosen ForDepth None f s) (digit ∷ []) rest (depth_turn None f s (cond q (Some (digit - 48)) None))) both.0
      ∙ read_whole settings (Some (digit - 48)) f s both.1 a b c
  read_whole (DepthJoined digit ∷ settings) (Some x) f s right a b c = absurd a
  read_whole (DepthJoined digit ∷ settings) None f s right a b c =
      let both = both_true (is_depth_digit digit) (list_all is_setting settings) right in
      let rest = flat_map spelled settings ++ (divider divided ++ files) in
      ap (λ q. turned (λ m. reading m rest) (chosen ForOption None f s) (codes "--depth=" ++ (digit ∷ [])) rest (depth_turn None f s (cond q (Some (digit - 48)) None))) both.0
      ∙ read_whole settings (Some (digit - 48)) f s both.1 a b c
  read_whole (FormatApart name ∷ settings) d (Some x) s right a b c = absurd b
  read_whole (FormatApart name ∷ settings) d None s right a b c =
      let both = both_true (not (starts_with_minus name)) (list_all is_setting settings) right in
      let rest = flat_map spelled settings ++ (divider divided ++ files) in
      ap (λ q. turned (λ m. reading m rest) (chosen ForFormat d None s) name rest (cond q steps.Wrong (format_turn d None s name))) (not_true (starts_with_minus name) both.0)
      ∙ read_whole settings d (Some name) s both.1 a b c
  read_whole (FormatJoined name ∷ settings) d (Some x) s right a b c = absurd b
  read_whole (FormatJoined name ∷ settings) d None s right a b c = read_whole settings d (Some name) s right a b c
  read_whole (Stats ∷ settings) d f true right a b c = absurd c
  read_whole (Stats ∷ settings) d f false right a b c = read_whole settings d f true right a b c

-- where words stand for a request, it is read
pub read_as : (words : Words) (r : Request) → IsRequest words r → reading nothing_chosen words ≡ Some r
read_as words r q =
    ap (reading nothing_chosen) q.whole
    ∙ read_whole q.divided r.files r.depth r.format r.stats q.chosen_depth q.chosen_mark q.plain q.few q.depth q.stats q.settings None None false q.right q.one_depth q.format q.one_mark
