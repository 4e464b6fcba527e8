-- What is counted once more.
use Rattle.std.proofs.Common.{◌≡◌, ◌+◌, ◌≤◌, ◌<◌, ℕ, suc, List, [], ◌∷◌, ◌++◌, Some, length, take, slice_get, refl, sym, ap, ◌∙◌, arith}
use Rattle.std.proofs.Math.Seq.{take-suc, take-length}
use Rattle.std.proofs.lemmas.Option.{slice_get_within, get_or_from_slice_get}
use Rattle.least_set.specs.Logs.{Adds}
use Rattle.least_set.specs.Counts.{counted_by}
use Rattle.least_set.proofs.Growing.{take_stays}

module _ {M : Type 0} (count : M → ℕ → ℕ) where
  pub counted_last : (es : List M) (e : M) (n : ℕ) → counted_by count (es ++ (e ∷ [])) n ≡ count e (counted_by count es n)
  counted_last [] e n = refl
  counted_last (x ∷ es) e n = counted_last es e (count x n)

  take_next : (log : List M) (i : ℕ) (e : M) → slice_get log i ≡ Some e → take (i + 1) log ≡ take i log ++ (e ∷ [])
  take_next log i e is =
      let m : i + 1 ≡ suc i = omega arith in
      ap (λ k. take k log) m ∙ take-suc log i e (slice_get_within log i e is) ∙ ap (λ x. take i log ++ (x ∷ [])) (get_or_from_slice_get log i e e is)

  pub counted_next : {P : M → Type 0} {old new : List M} → Adds P old new → (i : ℕ) (e : M) (n x : ℕ) → i < length old → slice_get old i ≡ Some e → x ≡ counted_by count (take i old) n → count e x ≡ counted_by count (take (i + 1) new) n
  counted_next {old = old} {new = new} adds i e n x h is so =
      let inside : i + 1 ≤ length old = omega (arith, h) in
      ap (count e) so ∙ sym (counted_last (take i old) e n) ∙ ap (λ l. counted_by count l n) (sym (take_stays adds (i + 1) inside ∙ take_next old i e is))

  pub counted_whole : (log : List M) (i : ℕ) (n x : ℕ) → i ≤ length log → length log ≤ i → x ≡ counted_by count (take i log) n → x ≡ counted_by count log n
  counted_whole log i n x a b so =
      let s : i ≡ length log = omega (arith, a, b) in
      so ∙ ap (λ k. counted_by count (take k log) n) s ∙ ap (λ l. counted_by count l n) (take-length log)
