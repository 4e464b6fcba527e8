-- What words give: one command at most, of objects with at most 8 steps and of at most 80 files.
use Rattle.std.proofs.Common.{◌≡◌, ℕ, ◌+◌, ◌-◌, ◌≤◌, Bool, true, false, ◌&&◌, not, cond, nat_le, List, [], ◌∷◌, length, Option, None, Some, ap, refl, sym, ◌∙◌, subst, true≢false, arith}
use Rattle.std.specs.List.{list_all}
use Rattle.std.proofs.lemmas.Bool.{leb-true}
use Rattle.command_words.specs.Words.{Setting, DepthApart, DepthJoined, FormatApart, FormatJoined, Stats, is_setting, is_depth_digit, is_checker_word, is_source_word, starts_with_minus, counted, depths, IsOnly, depth_or_usual, Request, IsRequest}
use Rattle.command_words.specs.Generation.{IsGeneration}
use Rattle.command_words.proofs.Generations.{no_request}
use Rattle.command_words.proofs.Sound.{one_request}
use Rattle.command.specs.Commands.{Command, IsCommand, IsPlace}

both : (a b : Bool) → (a && b) ≡ true → (a ≡ true) × (b ≡ true)
both true b e = (refl, e)
both false b e = absurd (true≢false (sym e))

-- ---- the depth

low : (digit : ℕ) → is_depth_digit digit ≡ true → digit - 48 ≤ 8
low digit e = let h = leb-true digit 56 (both (nat_le 48 digit) (nat_le digit 56) e).1 in omega (arith, h)

abbrev AreLow : List ℕ → Type 0
AreLow [] = Unit {0}
AreLow (d ∷ ds) = (d ≤ 8) × AreLow ds

depths-low : (settings : List Setting) → list_all is_setting settings ≡ true → AreLow (depths settings)
depths-low [] e = tt
depths-low (DepthApart digit ∷ settings) e = let h = both (is_depth_digit digit) (list_all is_setting settings) e in (low digit h.0, depths-low settings h.1)
depths-low (DepthJoined digit ∷ settings) e = let h = both (is_depth_digit digit) (list_all is_setting settings) e in (low digit h.0, depths-low settings h.1)
depths-low (FormatApart name ∷ settings) e = depths-low settings (both (not (starts_with_minus name)) (list_all is_setting settings) e).1
depths-low (FormatJoined name ∷ settings) e = depths-low settings (both true (list_all is_setting settings) e).1
depths-low (Stats ∷ settings) e = depths-low settings (both true (list_all is_setting settings) e).1

only-low : (ds : List ℕ) (chosen : Option ℕ) → AreLow ds → IsOnly ds chosen → depth_or_usual chosen ≤ 8
only-low [] chosen l o = let h : depth_or_usual chosen ≡ 4 = ap depth_or_usual o in omega (arith, h)
only-low (d ∷ []) chosen l o = let h : depth_or_usual chosen ≡ d = ap depth_or_usual o in let k = l.0 in omega (arith, h, k)
only-low (d ∷ e ∷ ds) chosen l o = absurd o

pub deep_at_most : (words : List (List ℕ)) (r : Request) → IsRequest words r → r.depth ≤ 8
deep_at_most words r q = let h = only-low (depths q.settings) q.chosen_depth (depths-low q.settings q.right) q.one_depth in omega (arith, h, q.depth)

-- ---- the files

one-kind : (b : Bool) → cond b 1 0 + cond (not b) 1 0 ≡ 1
one-kind true = refl
one-kind false = refl

all-counted : (files : List (List ℕ)) → counted is_checker_word files + counted is_source_word files ≡ length files
all-counted [] = refl
all-counted (file ∷ files) =
    let a = all-counted files in
    let b = one-kind (is_checker_word file) in
    omega (arith, a, b)

pub few_files : (words : List (List ℕ)) (r : Request) → IsRequest words r → length r.files ≤ 80
few_files words r q =
    let checkers = counted is_checker_word r.files in
    let sources = counted is_source_word r.files in
    let h = both (nat_le checkers 16) (nat_le 1 sources && nat_le sources 64) q.few in
    let k = both (nat_le 1 sources) (nat_le sources 64) h.1 in
    let a = leb-true checkers 16 h.0 in
    let b = leb-true sources 64 k.1 in
    omega (arith, a, b, all-counted r.files)

-- ---- one command

one-place : (called : List (List ℕ)) (format : Option (List ℕ)) (a b : Option ℕ) → IsPlace called format a → IsPlace called format b → a ≡ b
one-place called None a b h k = h ∙ sym k
one-place called (Some name) a b h k =
    let same : Some h.0 ≡ Some k.0 = sym h.2 ∙ k.2 in
    h.1 ∙ same ∙ sym k.1

same-command : (a b : Command) → a.depth ≡ b.depth → a.stats ≡ b.stats → a.place ≡ b.place → a.files ≡ b.files → a ≡ b
same-command a b d s p f = λ i. record { depth = d i; stats = s i; place = p i; files = f i }

pub one_command : (words called : List (List ℕ)) (a b : Command) → IsCommand words called a → IsCommand words called b → a ≡ b
one_command words called a b h k =
    let same = one_request words h.request k.request h.is_request k.is_request in
    same-command a b
    (h.depth ∙ ap (λ (r : Request). r.depth) same ∙ sym k.depth)
    (h.stats ∙ ap (λ (r : Request). r.stats) same ∙ sym k.stats)
    (one-place called k.request.format a.place b.place (subst (λ (r : Request). IsPlace called r.format a.place) same h.place) k.place)
    (h.files ∙ ap (λ (r : Request). r.files) same ∙ sym k.files)

-- words that give a command ask for no generation
pub command_alone : (words called : List (List ℕ)) (c : Command) → IsCommand words called c → (count : ℕ) → IsGeneration words count → ⊥
command_alone words called c given count is = no_request words count is given.request given.is_request
