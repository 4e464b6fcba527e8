-- Texts in tables: what is found has a text that stands there.
use Rattle.std.proofs.Common.{◌≡◌, ℕ, Bool, true, false, cond, eqb, List, [], ◌∷◌, ◌++◌, None, Some, inl, inr, refl, ap, sym, ◌∙◌}
use Rattle.std.specs.Str.{bytes_eq}
use Rattle.std.specs.List.{list_all}
use Rattle.c_lexer.specs.CReading.Words.{find_text}
use Rattle.c_lexer.proofs.CReading.Tests.{cases, both, chosen, same}

pub same_bytes : (a b : List ℕ) → bytes_eq a b ≡ true → a ≡ b
same_bytes [] [] h = refl
same_bytes [] (y ∷ ys) h = cc
same_bytes (x ∷ xs) [] h = cc
same_bytes (x ∷ xs) (y ∷ ys) h =
    let q = both (eqb x y) (bytes_eq xs ys) h in
    let e = same x y q.0 in
    let r = same_bytes xs ys q.1 in
    cc

module _ {K : Type 0} where
  -- what a table's texts all pass, a text that is found passes
  pub found_passes : (p : List ℕ → Bool) (text : List ℕ) (es : List (List ℕ × K)) (k : K) → list_all (λ e. p e.0) es ≡ true → find_text text es ≡ Some k → p text ≡ true
  found_passes p text [] k all h = cc
  found_passes p text (e ∷ es) k all h =
      let q = both (p e.0) (list_all (λ x. p x.0) es) all in
      elim (chosen (bytes_eq text e.0) (Some e.1) (find_text text es) (Some k) h) as (λ _. p text ≡ true) [
        | inl t ↦ ap p (same_bytes text e.0 t.0) ∙ q.0
        | inr t ↦ found_passes p text es k q.1 t.1
      ]

  -- a text that fails what a table's texts all pass isn't found
  pub not_found : (p : List ℕ → Bool) (text : List ℕ) (es : List (List ℕ × K)) → list_all (λ e. p e.0) es ≡ true → p text ≡ false → find_text text es ≡ None
  not_found p text [] all h = refl
  not_found p text (e ∷ es) all h =
      let q = both (p e.0) (list_all (λ x. p x.0) es) all in
      elim (cases (bytes_eq text e.0)) as (λ _. find_text text (e ∷ es) ≡ None) [
        | inl t ↦ let s : p text ≡ p e.0 = ap p (same_bytes text e.0 t) in absurd (differ (sym h ∙ s ∙ q.0))
        | inr t ↦ rw t (not_found p text es q.1 h)
      ]
    where
      differ : false ≡ true → ⊥
      differ k = cc

  -- a table behind one that doesn't have the text
  pub find_text-append : (text : List ℕ) (es fs : List (List ℕ × K)) → find_text text es ≡ None → find_text text (es ++ fs) ≡ find_text text fs
  find_text-append text [] fs h = refl
  find_text-append text (e ∷ es) fs h = elim (chosen (bytes_eq text e.0) (Some e.1) (find_text text es) None h) as (λ _. find_text text ((e ∷ es) ++ fs) ≡ find_text text fs) [
    | inl t ↦ cc
    | inr t ↦ rw (t.0) (find_text-append text es fs t.1)
  ]

  -- a table before one that doesn't have the text
  pub find_text-front : (text : List ℕ) (es fs : List (List ℕ × K)) → find_text text fs ≡ None → find_text text (es ++ fs) ≡ find_text text es
  find_text-front text [] fs h = h
  find_text-front text (e ∷ es) fs h = ap (cond (bytes_eq text e.0) (Some e.1)) (find_text-front text es fs h)
