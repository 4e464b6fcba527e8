-- Equal to `≡` of lists, options and pairs, by their parts.
-- Where the parts of two values are the same, so are the values: for the laws of keys.
use Rattle.std.proofs.Common.{◌≡◌, Bool, true, false, ◌&&◌, List, [], ◌∷◌, Option, Some, None, refl, sym, ap, true≢false}
use Rattle.std.specs.Cmp.Lexicographic.{pointwise}
use Rattle.std.specs.Option.{option_eq}

pub both : (a b : Bool) → a && b ≡ true → (a ≡ true) × (b ≡ true)
both true b h = (refl, h)
both false b h = absurd (true≢false (sym h))

module _ {A : Type 0} (eq : A → A → Bool) (same : (x y : A) → eq x y ≡ true → x ≡ y) where
  pub same_list : (xs ys : List A) → pointwise eq xs ys ≡ true → xs ≡ ys
  same_list [] [] h = refl
  same_list [] (y ∷ ys) h = absurd (true≢false (sym h))
  same_list (x ∷ xs) [] h = absurd (true≢false (sym h))
  same_list (x ∷ xs) (y ∷ ys) h = let p = both (eq x y) (pointwise eq xs ys) h in λ i. same x y p.0 i ∷ same_list xs ys p.1 i

  pub same_option : (x y : Option A) → option_eq eq x y ≡ true → x ≡ y
  same_option None None h = refl
  same_option None (Some y) h = absurd (true≢false (sym h))
  same_option (Some x) None h = absurd (true≢false (sym h))
  same_option (Some x) (Some y) h = ap Some (same x y h)

module _ {A B : Type 0} (eq : A → A → Bool) (other : B → B → Bool) (same : (x y : A) → eq x y ≡ true → x ≡ y) (same_other : (x y : B) → other x y ≡ true → x ≡ y) where
  pub same_pair : (x y : A × B) → eq x.0 y.0 && other x.1 y.1 ≡ true → x ≡ y
  same_pair x y h = let p = both (eq x.0 y.0) (other x.1 y.1) h in λ i. (same x.0 y.0 p.0 i, same_other x.1 y.1 p.1 i)
