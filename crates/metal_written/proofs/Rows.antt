-- One or more things, one after the other.
use Rattle.std.proofs.Common.{◌≡◌, ◌<◌, List, [], ◌∷◌, ◌++◌, map, length, Option, None, Some, ap, refl, sym, subst, arith}
use Rattle.c_tree.specs.Symbol.{Symbol}
use Rattle.metal_grammar.specs.Written.{Row, lone, row, members}
use Rattle.metal_written.specs.Written.{row_from}

-- a row behind these
abbrev pub behind_all : {A : Type 0} → List A → Row A → Row A
behind_all [] r = r
behind_all (x ∷ xs) r = row x (behind_all xs r)

abbrev pub ending_with : {A : Type 0} → List A → Option (Row A × List Symbol) → Option (Row A × List Symbol)
ending_with all None = None
ending_with all (Some r) = Some (behind_all all r.0, r.1)

pub ending-start : {A : Type 0} (found : Option (Row A × List Symbol)) → ending_with [] found ≡ found
ending-start None = refl
ending-start (Some r) = refl

pub behind-push : {A : Type 0} (xs : List A) (x : A) (r : Row A) → behind_all (xs ++ (x ∷ [])) r ≡ behind_all xs (row x r)
behind-push [] x r = refl
behind-push (y ∷ ys) x r = ap (row y) (behind-push ys x r)

pub behind-lone : {A : Type 0} (none : A) (xs : List A) (x : A) → behind_all xs (lone x) ≡ row_from none (xs ++ (x ∷ []))
behind-lone none [] x = refl
behind-lone none (y ∷ []) x = refl
behind-lone none (y ∷ z ∷ zs) x = ap (row y) (behind-lone none (z ∷ zs) x)

pub map-push : {A B : Type 0} (f : A → B) (xs : List A) (x : A) → map f (xs ++ (x ∷ [])) ≡ map f xs ++ (f x ∷ [])
map-push f [] x = refl
map-push f (y ∷ ys) x = ap (λ zs. f y ∷ zs) (map-push f ys x)

some-pushed : {A : Type 0} (xs : List A) (x : A) → 0 < length (xs ++ (x ∷ []))
some-pushed [] x = omega arith
some-pushed (y ∷ ys) x = omega arith

-- a list behind a push isn't empty
pub pushed-some : {A : Type 0} (all pushed : List A) (x : A) → pushed ≡ all ++ (x ∷ []) → 0 < length pushed
pushed-some all pushed x h = subst (λ ys. 0 < length ys) (sym h) (some-pushed all x)

-- the members of a row are the list that it was made of
pub members-row : {A : Type 0} (none : A) (xs : List A) → 0 < length xs → members (row_from none xs) ≡ xs
members-row none [] h = absurd (omega arith)
members-row none (x ∷ []) h = refl
members-row none (x ∷ y ∷ ys) h = ap (λ zs. x ∷ zs) (members-row none (y ∷ ys) (omega arith))
