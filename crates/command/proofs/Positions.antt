-- Files by their positions among the words.
use Rattle.std.proofs.Common.{◌≡◌, ℕ, zero, suc, ◌+◌, ◌-◌, ◌*◌, ◌≤◌, ◌<◌, Bool, true, false, List, [], ◌∷◌, ◌++◌, length, drop, get_or, Option, refl, sym, ap, ◌∙◌, append_assoc, append-nil, add-one, length-append, arith}
use Rattle.std.proofs.Math.Seq.{drop-append_seam}
use Rattle.std.proofs.lemmas.List.FromFn.{length-range_with_len}
use Rattle.std.specs.List.{range_with_len, flat_map}
use Rattle.command_words.specs.Words.{Setting, DepthApart, DepthJoined, FormatApart, FormatJoined, Stats, spelled, depths, formats, marks, divider, IsOnly, Request, IsRequest}
use Rattle.command.specs.Commands.{Command, IsCommand}
use Rattle.command.specs.Requests.{words_at, AreLastPositions}
use Rattle.command.proofs.GivenCommands.{few_files}

-- one position more
range-next : (position to : ℕ) → position < to → range_with_len position (to - position) ≡ position ∷ range_with_len (position + 1) (to - (position + 1))
range-next position to h = by (to - (position + 1)) refl
  where
    by : (k : ℕ) → to - (position + 1) ≡ k → range_with_len position (to - position) ≡ position ∷ range_with_len (position + 1) (to - (position + 1))
    by k e =
        let n : to - position ≡ suc k = omega (arith, e, h) in
        ap (range_with_len position) n ∙ ap (λ m. position ∷ range_with_len (position + 1) m) (sym e)

pub position_next : (done grown all : List ℕ) (position to : ℕ) → position < to → grown ≡ done ++ position ∷ [] → done ++ range_with_len position (to - position) ≡ all → grown ++ range_with_len (position + 1) (to - (position + 1)) ≡ all
position_next done grown all position to h g e =
    ap (λ l. l ++ range_with_len (position + 1) (to - (position + 1))) g ∙ append_assoc done (position ∷ []) (range_with_len (position + 1) (to - (position + 1)))
    ∙ ap (λ l. done ++ l) (sym (range-next position to h)) ∙ e

pub position_end : (done all : List ℕ) (position to : ℕ) → to ≤ position → done ++ range_with_len position (to - position) ≡ all → done ≡ all
position_end done all position to h e =
    let z : to - position ≡ 0 = omega (arith, h) in
    sym (append-nil done) ∙ sym (ap (λ n. done ++ range_with_len position n) z) ∙ e

-- the words from a position on
drop-all : (ws : List (List ℕ)) (n : ℕ) → length ws ≤ n → drop n ws ≡ []
drop-all [] zero h = refl
drop-all [] (suc n) h = refl
drop-all (w ∷ ws) zero h = absurd (omega (arith, h))
drop-all (w ∷ ws) (suc n) h = drop-all ws n (omega (arith, h))

drop-next : (ws : List (List ℕ)) (n : ℕ) → n < length ws → drop n ws ≡ get_or ws n [] ∷ drop (suc n) ws
drop-next [] n h = absurd (omega (arith, h))
drop-next (w ∷ ws) zero h = refl
drop-next (w ∷ ws) (suc n) h = drop-next ws n (omega (arith, h))

from-position : (ws : List (List ℕ)) (n k : ℕ) → n + k ≡ length ws → words_at ws (range_with_len n k) ≡ drop n ws
from-position ws n zero e = sym (drop-all ws n (omega (arith, e)))
from-position ws n (suc k) e =
    ap (λ l. get_or ws n [] ∷ l) (from-position ws (n + 1) k (omega (arith, e)) ∙ ap (λ m. drop m ws) (add-one n)) ∙ sym (drop-next ws n (omega (arith, e)))

-- ---- the words of a request

spelled-few : (settings : List Setting) → length (flat_map spelled settings) ≤ 2 * length settings
spelled-few [] = omega arith
spelled-few (DepthApart digit ∷ settings) = let a = spelled-few settings in omega (arith, a)
spelled-few (DepthJoined digit ∷ settings) = let a = spelled-few settings in omega (arith, a)
spelled-few (FormatApart name ∷ settings) = let a = spelled-few settings in omega (arith, a)
spelled-few (FormatJoined name ∷ settings) = let a = spelled-few settings in omega (arith, a)
spelled-few (Stats ∷ settings) = let a = spelled-few settings in omega (arith, a)

kinds : (settings : List Setting) → length settings ≡ length (depths settings) + length (formats settings) + length (marks settings)
kinds [] = refl
kinds (DepthApart digit ∷ settings) = let a = kinds settings in omega (arith, a)
kinds (DepthJoined digit ∷ settings) = let a = kinds settings in omega (arith, a)
kinds (FormatApart name ∷ settings) = let a = kinds settings in omega (arith, a)
kinds (FormatJoined name ∷ settings) = let a = kinds settings in omega (arith, a)
kinds (Stats ∷ settings) = let a = kinds settings in omega (arith, a)

at-most-one : {A : Type 0} (xs : List A) (chosen : Option A) → IsOnly xs chosen → length xs ≤ 1
at-most-one [] chosen o = omega arith
at-most-one (x ∷ []) chosen o = omega arith
at-most-one (x ∷ y ∷ xs) chosen o = absurd o

divider-few : (divided : Bool) → length (divider divided) ≤ 1
divider-few true = omega arith
divider-few false = omega arith

many : (words : List (List ℕ)) (r : Request) (q : IsRequest words r) → length words ≡ length (flat_map spelled q.settings) + (length (divider q.divided) + length r.files)
many words r q =
    ap length q.whole ∙ length-append (flat_map spelled q.settings) (divider q.divided ++ r.files)
    ∙ ap (λ n. length (flat_map spelled q.settings) + n) (length-append (divider q.divided) r.files)

-- so many words at most
pub words_few : (words : List (List ℕ)) (r : Request) → IsRequest words r → length words ≤ 87
words_few words r q =
    let a = spelled-few q.settings in
    let b = kinds q.settings in
    let c = at-most-one (depths q.settings) q.chosen_depth q.one_depth in
    let d = at-most-one (formats q.settings) r.format q.format in
    let e = at-most-one (marks q.settings) q.chosen_mark q.one_mark in
    let f = divider-few q.divided in
    let g = few_files words r q in
    omega (arith, many words r q, a, b, c, d, e, f, g)

-- and the files are the last of them
files-last : (words : List (List ℕ)) (r : Request) → IsRequest words r → words_at words (range_with_len (length words - length r.files) (length words - (length words - length r.files))) ≡ r.files
files-last words r q =
    let front = flat_map spelled q.settings in
    let behind = divider q.divided in
    let all = many words r q in
    let n : length words - length r.files ≡ length (front ++ behind) = omega (arith, all, length-append front behind) in
    from-position words (length words - length r.files) (length words - (length words - length r.files)) (omega (arith, all))
    ∙ ap (λ m. drop m words) n
    ∙ ap (λ ws. drop (length (front ++ behind)) ws) (q.whole ∙ sym (append_assoc front behind r.files))
    ∙ drop-append_seam (front ++ behind) r.files

-- the same of a command
pub command_few : (words called : List (List ℕ)) (c : Command) → IsCommand words called c → length words < 4294967296
command_few words called c g = let h = words_few words g.request g.is_request in omega (arith, h)

pub files_fewer : (words called : List (List ℕ)) (c : Command) → IsCommand words called c → length c.files ≤ length words
files_fewer words called c g = omega (arith, many words g.request g.is_request, ap length g.files)

pub by_positions : (words called : List (List ℕ)) (c : Command) (positions : List ℕ) (n m : ℕ) → IsCommand words called c → n ≡ length words → m ≡ length c.files → positions ≡ range_with_len (n - m) (n - (n - m))
    → IsCommand words called (record { depth = c.depth; stats = c.stats; place = c.place; files = words_at words positions })
by_positions words called c positions n m g many few e = record {
  request = g.request;
  is_request = g.is_request;
  stats = g.stats;
  place = g.place;
  depth = g.depth;
  files = ap (words_at words) e ∙ ap (λ k. words_at words (range_with_len (k - m) (k - (k - m)))) many
      ∙ ap (λ k. words_at words (range_with_len (length words - k) (length words - (length words - k)))) (few ∙ ap length g.files) ∙ files-last words g.request g.is_request;
}

-- from where as many words are left as there are files, the positions are the last ones
pub last_positions : (words called : List (List ℕ)) (c : Command) (positions : List ℕ) (n m : ℕ) → IsCommand words called c → n ≡ length words → m ≡ length c.files → positions ≡ range_with_len (n - m) (n - (n - m))
    → AreLastPositions words positions
last_positions words called c positions n m g many few e =
    let fewer = files_fewer words called c g in
    let count : length positions ≡ n - (n - m) = ap length e ∙ length-range_with_len (n - m) (n - (n - m)) in
    let from : n - m ≡ length words - length positions = omega (arith, fewer, count, many, few) in
    e ∙ ap (λ k. range_with_len k (n - (n - m))) from ∙ ap (range_with_len (length words - length positions)) (sym count)
