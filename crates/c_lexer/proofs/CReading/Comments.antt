-- Where a comment ends.
use Rattle.std.proofs.Common.{◌≡◌, ℕ, true, false, ◌&&◌, eqb, List, [], ◌∷◌, ◌++◌, length, Some, inl, inr, refl, ap, sym, ◌∙◌, arith}
use Rattle.c_lexer.specs.CReading.Bytes.{begins}
use Rattle.c_lexer.specs.CReading.Reading.{ends_comment}
use Rattle.c_lexer.specs.Ways.Cutting.{closing}
use Rattle.c_lexer.proofs.CReading.Tests.{both, chosen, mapped, some_is, same}

one_long : (xs : List ℕ) → length xs ≡ 1 → (x : ℕ) × (xs ≡ x ∷ [])
one_long [] h = absurd (omega arith)
one_long (x ∷ []) h = (x, refl)
one_long (x ∷ y ∷ xs) h = absurd (omega arith)

begins-append : (b c : ℕ) (xs ys : List ℕ) → begins b ((c ∷ xs) ++ ys) ≡ begins b (c ∷ xs)
begins-append b c xs ys = refl

-- what ends with its first `*/` is closed there, whatever follows
pub closing-append : (xs ys : List ℕ) → ends_comment xs ≡ true → closing (xs ++ ys) ≡ Some (length xs)
closing-append [] ys h = cc
closing-append (c ∷ []) ys h = elim (chosen (eqb c 42 && false) (eqb 0 1) false true h) as (λ _. closing (c ∷ ys) ≡ Some 1) [
  | inl t ↦ absurd (not_one (t.1))
  | inr t ↦ absurd (not_false (t.1))
]
  where
    not_one : false ≡ true → ⊥
    not_one k = cc

    not_false : false ≡ true → ⊥
    not_false k = cc
closing-append (c ∷ d ∷ cs) ys h = elim (chosen (eqb c 42 && eqb d 47) _ _ true h) as (λ _. closing (c ∷ d ∷ (cs ++ ys)) ≡ Some (length (c ∷ d ∷ cs))) [
  | inl t ↦ let n : length (d ∷ cs) ≡ 1 = same (length (d ∷ cs)) 1 t.1 in rw (t.0) (ap Some (omega arith))
  | inr t ↦ rw (t.0, closing-append (d ∷ cs) ys t.1) (ap Some (omega arith))
]

-- a list that is cut behind its first `*/`
pub record Closed (xs : List ℕ) (n : ℕ) : Type 0 where
  pub front : List ℕ
  pub back : List ℕ
  pub joined : xs ≡ front ++ back
  pub size : length front ≡ n
  pub ends : ends_comment front ≡ true

longer : (c : ℕ) (cs fs bs : List ℕ) → cs ≡ fs ++ bs → ends_comment fs ≡ true → (eqb c 42 && begins 47 cs) ≡ false → ends_comment (c ∷ fs) ≡ true
longer c cs [] bs j e h = cc
longer c cs (f ∷ fs) bs j e h =
    let b : (eqb c 42 && begins 47 (f ∷ fs)) ≡ false = ap (λ l. eqb c 42 && begins 47 l) (sym j) ∙ h in
    rw b e

pub closing-front : (xs : List ℕ) (n : ℕ) → closing xs ≡ Some n → Closed xs n
closing-front [] n h = cc
closing-front (c ∷ []) n h = elim (chosen (eqb c 42 && false) _ _ (Some n) h) as (λ _. Closed (c ∷ []) n) [
  | inl t ↦ absurd (impossible (both (eqb c 42) false t.0).1)
  | inr t ↦ absurd (nothing (mapped 1 (closing []) n t.1).1)
]
  where
    impossible : false ≡ true → ⊥
    impossible k = cc

    nothing : {m : ℕ} → closing [] ≡ Some m → ⊥
    nothing k = cc
closing-front (c ∷ d ∷ cs) n h = elim (chosen (eqb c 42 && eqb d 47) _ _ (Some n) h) as (λ _. Closed (c ∷ d ∷ cs) n) [
  | inl t ↦ record { front = c ∷ d ∷ []; back = cs; joined = refl; size = omega (arith, some_is 2 n t.1); ends = rw (t.0) refl }
  | inr t ↦
      let m = mapped 1 (closing (d ∷ cs)) n t.1 in
      let f = closing-front (d ∷ cs) m.0 m.1 in
      record {
        front = c ∷ f.front;
        back = f.back;
        joined = ap (λ l. c ∷ l) f.joined;
        size = omega (arith, f.size, m.2);
        ends = longer c (d ∷ cs) f.front f.back f.joined f.ends t.0;
      }
]
