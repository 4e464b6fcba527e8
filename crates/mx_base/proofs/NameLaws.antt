-- What numbers and names tell a caller: equal texts have equal numbers, and what grows keeps each number.
use Rattle.std.proofs.Common.{◌≡◌, ℕ, ◌+◌, ◌<◌, ◌≤◌, Bool, true, false, not, cond, List, [], ◌∷◌, ◌++◌, length, Some, slice_get, get_or, ◌⊎◌, inl, inr, ap, sym, ◌∙◌, refl, subst, append_assoc, length-append, arith}
use Rattle.std.specs.List.{list_any, position_or_len}
use Rattle.std.specs.Str.{bytes_eq}
use Rattle.std.proofs.lemmas.Bool.{false≢true}
use Rattle.std.proofs.lemmas.Slice.Eq.{bytes_eq-Decides}
use Rattle.std.proofs.lemmas.List.{get_or_push, append-nil}
use Rattle.std.proofs.Math.ListN.{get_or-append}
use Rattle.std.proofs.lemmas.Bool.{cases_order}
use Rattle.std.proofs.lemmas.List.Sums.{passes_at_first}
use Rattle.std.proofs.lemmas.Map.Keys.{apart_from_distinct}
use Rattle.std.proofs.lemmas.Option.{slice_get-get_or, slice_get_within, get_or_from_slice_get}
use Rattle.mx_base.specs.Names.{number_of, names_after, HasNoRepeats, IsNumberOf, AddsAtMost}
use Rattle.mx_base.proofs.NameFacts.{some_passes, none_passes}

-- the text stands at its number once it is added
stands_after : (names : List (List ℕ)) (t : List ℕ) → slice_get (names_after names t) (number_of names t) ≡ Some t
stands_after names t = by (list_any (bytes_eq t) names) refl
  where
    by : (b : Bool) → list_any (bytes_eq t) names ≡ b → slice_get (cond b names (names ++ t ∷ [])) (number_of names t) ≡ Some t
    by true e =
        let within = some_passes (bytes_eq t) names e in
        let same : t ≡ get_or names (number_of names t) t = (bytes_eq-Decides _ _).0 (passes_at_first (bytes_eq t) names t within) in
        slice_get-get_or names (number_of names t) t within ∙ ap Some (sym same)
    by false e =
        let next : number_of names t ≡ length names = none_passes (bytes_eq t) names e in
        rw next (slice_get-get_or (names ++ t ∷ []) (length names) t (omega (arith, length-append names (t ∷ []))) ∙ ap Some (get_or_push names t t (length names) refl))

-- one text has one number
pub one_number : (names : List (List ℕ)) (t : List ℕ) (i j : ℕ) → HasNoRepeats names → slice_get names i ≡ Some t → slice_get names j ≡ Some t → i ≡ j
one_number names t i j once at_i at_j = by (cases_order i j)
  where
    apart : (a b : ℕ) → slice_get names a ≡ Some t → slice_get names b ≡ Some t → a < b → ⊥
    apart a b at_a at_b less =
        let differ = apart_from_distinct bytes_eq names a b t once less (slice_get_within names b t at_b) in
        let same = rw (get_or_from_slice_get names a t t at_a, get_or_from_slice_get names b t t at_b) at differ in
        false≢true (sym same ∙ (bytes_eq-Decides t t).1 refl)

    by : (i ≡ j) ⊎ ((i < j) ⊎ (j < i)) → i ≡ j
    by (inl e) = e
    by (inr (inl less)) = absurd (apart i j at_i at_j less)
    by (inr (inr more)) = absurd (apart j i at_j at_i more)

-- what `intern` says of the number, from its exact answer
pub number_stands : (old new : List (List ℕ)) (t : List ℕ) (n : ℕ) → n ≡ number_of old t → new ≡ names_after old t → HasNoRepeats new → IsNumberOf new t n
number_stands old new t n number names once =
    let here : slice_get new n ≡ Some t = rw (number, names) (stands_after old t) in
    record { here = here; alone = λ m there. one_number new t m n once there here }

pub adds_none : (names : List (List ℕ)) (most : ℕ) → AddsAtMost names names most
adds_none names most = record { more = []; behind = sym (append-nil names); few = omega arith }

pub adds_after : (names : List (List ℕ)) (t : List ℕ) → AddsAtMost names (names_after names t) 1
adds_after names t = by (list_any (bytes_eq t) names)
  where
    by : (b : Bool) → AddsAtMost names (cond b names (names ++ t ∷ [])) 1
    by true = adds_none names 1
    by false = record { more = t ∷ []; behind = refl; few = omega arith }

-- one growth behind another
pub adds_both : (xs ys zs : List (List ℕ)) (m n : ℕ) → AddsAtMost xs ys m → AddsAtMost ys zs n → AddsAtMost xs zs (m + n)
adds_both xs ys zs m n first then = record {
  more = first.more ++ then.more;
  behind = then.behind ∙ ap (λ l. l ++ then.more) first.behind ∙ append_assoc xs first.more then.more;
  few = omega (arith, length-append first.more then.more, first.few, then.few);
}

-- how many names there are then
pub length_adds : (old new : List (List ℕ)) (most : ℕ) → AddsAtMost old new most → (length old ≤ length new) × (length new ≤ length old + most)
length_adds old new most adds = let count = ap length adds.behind ∙ length-append old adds.more in (omega (arith, count), omega (arith, count, adds.few))

-- a name keeps its number
pub kept_number : (old new : List (List ℕ)) (most n : ℕ) (t : List ℕ) → AddsAtMost old new most → slice_get old n ≡ Some t → slice_get new n ≡ Some t
kept_number old new most n t adds at =
    let within = slice_get_within old n t at in
    let same : get_or new n t ≡ t = ap (λ l. get_or l n t) adds.behind ∙ get_or-append old adds.more t n within ∙ get_or_from_slice_get old n t t at in
    slice_get-get_or new n t (omega (arith, within, (length_adds old new most adds).0)) ∙ ap Some same
