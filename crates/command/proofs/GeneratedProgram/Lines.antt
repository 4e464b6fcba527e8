-- Texts of one line for each number, and what is left of them.
use Rattle.std.proofs.Common.{◌≡◌, ℕ, zero, suc, ◌+◌, ◌-◌, ◌<◌, List, ◌∷◌, ◌++◌, flat_map, refl, sym, ap, ◌∙◌, append_assoc, append-nil, arith}
use Rattle.std.specs.List.{range_with_len}
use Rattle.std.proofs.lemmas.Grind.{flat_map-append}
use Rattle.report_model.specs.OfReporters.Beginnings.{HasBegun}

range-splits : (a k m : ℕ) → range_with_len a (k + m) ≡ range_with_len a k ++ range_with_len (a + k) m
range-splits a zero m = ap (λ n. range_with_len a n) (omega arith) ∙ ap (λ b. range_with_len b m) (omega arith)
range-splits a (suc k) m =
    ap (λ n. range_with_len a n) (let e : suc k + m ≡ suc (k + m) = omega arith in e)
    ∙ ap (λ l. a ∷ l) (range-splits (a + 1) k m ∙ ap (λ b. range_with_len (a + 1) k ++ range_with_len b m) (omega arith))

module _ (f : ℕ → List ℕ) where
  -- the lines of the first numbers
  abbrev pub lines : ℕ → List ℕ
  lines k = flat_map f (range_with_len 0 k)

  splits : (k m : ℕ) → lines (k + m) ≡ lines k ++ flat_map f (range_with_len k m)
  splits k m =
      ap (flat_map f) (range-splits 0 k m ∙ ap (λ b. range_with_len 0 k ++ range_with_len b m) (omega arith))
      ∙ flat_map-append f (range_with_len 0 k) (range_with_len k m)

  -- one line more
  pub one_more : (k : ℕ) (old mid new : List ℕ) → mid ≡ old ++ lines k → new ≡ mid ++ f k → new ≡ old ++ lines (k + 1)
  one_more k old mid new e g =
      let more : lines (k + 1) ≡ lines k ++ f k = splits k 1 ∙ ap (λ l. lines k ++ l) (append-nil (f k)) in
      g ∙ ap (λ l. l ++ f k) e ∙ append_assoc old (lines k) (f k) ∙ ap (λ l. old ++ l) (sym more)

  -- a beginning of the next line makes a beginning of them all, and of what stands behind
  pub begun_line : (k n : ℕ) (old mid new last : List ℕ) → k < n → mid ≡ old ++ lines k → HasBegun mid (f k) new → HasBegun old (lines n ++ last) new
  begun_line k n old mid new last h e b =
      let m = n - (k + 1) in
      let behind = flat_map f (range_with_len (k + 1) m) in
      let count : n ≡ k + suc m = omega (arith, h) in
      let whole : lines n ≡ lines k ++ ((b.done ++ b.left) ++ behind) = ap lines count ∙ splits k (suc m) ∙ ap (λ l. lines k ++ (l ++ behind)) b.whole in
      record {
        done = lines k ++ b.done;
        left = (b.left ++ behind) ++ last;
        written = b.written ∙ ap (λ l. l ++ b.done) e ∙ append_assoc old (lines k) b.done;
        whole =
            ap (λ l. l ++ last) (whole ∙ ap (λ l. lines k ++ l) (append_assoc b.done b.left behind) ∙ sym (append_assoc (lines k) b.done (b.left ++ behind)))
            ∙ append_assoc (lines k ++ b.done) (b.left ++ behind) last;
      }

-- the whole front
pub begun_front : (old new front last : List ℕ) → new ≡ old ++ front → HasBegun old (front ++ last) new
begun_front old new front last e = record { done = front; left = last; written = e; whole = refl }
