-- Positions of files, the checkers first.
use Rattle.std.proofs.Common.{◌≡◌, ℕ, zero, suc, ◌+◌, ◌-◌, ◌≤◌, ◌<◌, List, [], ◌∷◌, ◌++◌, length, get_or, slice_get, Some, Bor, refl, sym, ap, subst, arith, length-append}
use Rattle.std.proofs.lemmas.List.{length-map}
use Rattle.request_files.specs.Turns.{Kind, CheckerFile, SourceFile, Turn, numbered, turns}
use Rattle.request_files.specs.Views.{words_of}

numbered-length : (kind : Kind) (n : ℕ) (words : List (List ℕ)) → length (numbered kind n words) ≡ length words
numbered-length kind n [] = refl
numbered-length kind n (w ∷ ws) = ap suc (numbered-length kind (n + 1) ws)

-- as many turns as files
pub all_turns : (checkers sources : List (List ℕ)) → length (turns checkers sources) ≡ length checkers + length sources
all_turns checkers sources =
    let a = length-append (numbered CheckerFile 0 checkers) (numbered SourceFile 0 sources) in
    let b = numbered-length CheckerFile 0 checkers in
    let c = numbered-length SourceFile 0 sources in
    omega (arith, a, b, c)

-- the word of a turn stands at its position
numbered-word : (kind : Kind) (n : ℕ) (words : List (List ℕ)) (i : ℕ) (t : Turn) → slice_get (numbered kind n words) i ≡ Some t → slice_get words i ≡ Some t.word
numbered-word kind n [] i t e = cc
numbered-word kind n (w ∷ ws) zero t e = let s : record { kind = kind; number = n; word = w } ≡ t = cc in ap (λ (u : Turn). Some u.word) s
numbered-word kind n (w ∷ ws) (suc i) t e = numbered-word kind (n + 1) ws i t e

front : (kind : Kind) (n : ℕ) (words : List (List ℕ)) (more : List Turn) (i : ℕ) (t : Turn) → i < length words → slice_get (numbered kind n words ++ more) i ≡ Some t → slice_get words i ≡ Some t.word
front kind n [] more i t h e = absurd (omega (arith, h))
front kind n (w ∷ ws) more zero t h e = let s : record { kind = kind; number = n; word = w } ≡ t = cc in ap (λ (u : Turn). Some u.word) s
front kind n (w ∷ ws) more (suc i) t h e = front kind (n + 1) ws more i t (omega (arith, h)) e

behind : (kind : Kind) (n : ℕ) (words : List (List ℕ)) (more : List Turn) (i : ℕ) (t : Turn) → length words ≤ i → slice_get (numbered kind n words ++ more) i ≡ Some t → slice_get more (i - length words) ≡ Some t
behind kind n [] more i t h e = subst (λ k. slice_get more k ≡ Some t) (omega arith) e
behind kind n (w ∷ ws) more zero t h e = absurd (omega (arith, h))
behind kind n (w ∷ ws) more (suc i) t h e = subst (λ k. slice_get more k ≡ Some t) (omega arith) (behind kind (n + 1) ws more i t (omega (arith, h)) e)

word-at : (ws : List (Bor (List ℕ))) (i : ℕ) (d : Bor (List ℕ)) (x : List ℕ) → i < length ws → slice_get (words_of ws) i ≡ Some x → x ≡ (get_or ws i d).now
word-at [] i d x h s = absurd (omega (arith, h))
word-at (v ∷ ws) zero d x h s = let k : v.now ≡ x = cc in sym k
word-at (v ∷ ws) (suc i) d x h s = word-at ws i d x (omega (arith, h)) s

module _ (checkers sources : List (Bor (List ℕ))) (position : ℕ) (turn : Turn) (d : Bor (List ℕ)) (here : slice_get (turns (words_of checkers) (words_of sources)) position ≡ Some turn) where
  -- that of a checker
  pub checker_word : position < length checkers → turn.word ≡ (get_or checkers position d).now
  checker_word h =
      word-at checkers position d turn.word h
      (front CheckerFile 0 (words_of checkers) (numbered SourceFile 0 (words_of sources)) position turn (omega (arith, h, length-map checkers (λ (b : Bor (List ℕ)). b.now))) here)

  -- that of a C file
  pub source_word : length checkers ≤ position → position < length checkers + length sources → turn.word ≡ (get_or sources (position - length checkers) d).now
  source_word h l =
      let many = length-map checkers (λ (b : Bor (List ℕ)). b.now) in
      word-at sources (position - length checkers) d turn.word (omega (arith, h, l))
      (subst (λ k. slice_get (words_of sources) k ≡ Some turn.word) (ap (λ k. position - k) many)
      (numbered-word SourceFile 0 (words_of sources) (position - length (words_of checkers)) turn (behind CheckerFile 0 (words_of checkers) (numbered SourceFile 0 (words_of sources)) position turn (omega (arith, h, many)) here)))
