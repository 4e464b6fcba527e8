-- Objects that are put into the sets of their functions, one after the other.
use Rattle.std.proofs.Common.{arith, ◌≡◌, ◌⊎◌, inl, inr, ℕ, zero, suc, ◌+◌, ◌<◌, ◌≤◌, List, [], ◌∷◌, ◌++◌, Bool, true, false, if◌then◌else◌, Contains, map, replicate, length, take, get_or, Option, Some, refl, sym, ap, ◌∙◌, subst}
use Rattle.std.specs.Prelude.{slice_get, slice_set}
use Rattle.std.specs.List.{list_any, IsDistinct}
use Rattle.std.proofs.lemmas.List.{take_more, take_all, length-map, map-append}
use Rattle.std.proofs.lemmas.List.Elements.{Contains-append_left, Contains-push, Contains-push_cases}
use Rattle.std.proofs.lemmas.Map.Keys.{IsDistinct-push}
use Rattle.std.proofs.lemmas.Option.{same_Some}
use Rattle.indexmap.specs.IndexSet.{insert_key}
use Rattle.c_objects.specs.Objects.{Object}
use Rattle.known_objects.specs.ByFunction.{with_known, AreSets, AreOnce}
use Rattle.known_objects.specs.Linked.{IsIn}
use Rattle.known_search.specs.declared.members.Known.{Known}
use Rattle.least_set.specs.Logs.{IsExactly}
use Rattle.least_set.proofs.Growing.{nothing, adds_one, either, kept, once}
use Rattle.objects.specs.Equality.{same_object, same_object-true, same_object-refl, objects_equiv}

-- ---- one object more

pub known-count : (n : ℕ) (o : Object) (lists : List (List Object)) → length (with_known n o lists) ≡ length lists
known-count n o [] = refl
known-count zero o (os ∷ lists) = refl
known-count (suc n) o (os ∷ lists) = ap suc (known-count n o lists)

-- a list that may have grown is that of the function
record Grew (n : ℕ) (o : Object) (lists : List (List Object)) (m : ℕ) (os : List Object) : Type 0 where
  is : n ≡ m
  old : List Object
  was : slice_get lists m ≡ Some old
  grew : os ≡ insert_key same_object old o

-- and all others are what they were
record Stayed (n : ℕ) (lists : List (List Object)) (m : ℕ) (os : List Object) : Type 0 where
  other : n ≡ m → ⊥
  was : slice_get lists m ≡ Some os

known-at : (n : ℕ) (o : Object) (lists : List (List Object)) (m : ℕ) (os : List Object) → slice_get (with_known n o lists) m ≡ Some os → Grew n o lists m os ⊎ Stayed n lists m os
known-at n o [] m os e = cc
known-at zero o (x ∷ lists) zero os e = inl (record { is = refl; old = x; was = refl; grew = sym (same_Some (insert_key same_object x o) os e) })
known-at zero o (x ∷ lists) (suc m) os e = inr (record { other = λ k. omega (arith, k); was = e })
known-at (suc n) o (x ∷ lists) zero os e = inr (record { other = λ k. omega (arith, k); was = e })
known-at (suc n) o (x ∷ lists) (suc m) os e = elim (known-at n o lists m os e) [
  | inl g ↦ inl (record { is = ap suc g.is; old = g.old; was = g.was; grew = g.grew })
  | inr s ↦ inr (record { other = λ k. s.other (let j : n ≡ m = omega (arith, k) in j); was = s.was })
]

-- ---- the lists of what was gone through

none-at : (n m : ℕ) (os : List Object) → slice_get (replicate n []) m ≡ Some os → os ≡ []
none-at zero m os e = cc
none-at (suc n) zero os e = sym (same_Some [] os e)
none-at (suc n) (suc m) os e = none-at n m os e

pub no-sets : (n : ℕ) → AreSets [] (replicate n [])
no-sets n m os e = (
  λ o h. absurd (nothing o (subst (λ l. Contains l o) (none-at n m os e) h)),
  λ o h. absurd (nothing _ h.1),
)

pub sets-more : (found : List (Known Object)) (x : Known Object) (lists : List (List Object)) → AreSets found lists → AreSets (found ++ (x ∷ [])) (with_known x.function x.object lists)
sets-more found x lists h m os e = elim (known-at x.function x.object lists m os e) [ inl g ↦ grown g | inr s ↦ same s ]
  where
    at : Option Object → Object → Known Object
    at w b = record { function = m; from = w; object = b }

    grown : Grew x.function x.object lists m os → IsExactly os (λ b. (w : Option Object) × IsIn (found ++ (x ∷ [])) m w b)
    grown g =
        let adds = adds_one same_object same_object-true g.old x.object in (
          λ b k. elim (either adds b (subst (λ l. Contains l b) g.grew k)) [
            | inl w ↦ let p = (h m g.old g.was).0 b w in (p.0, Contains-append_left found (x ∷ []) (at p.0 b) p.1)
            | inr q ↦ (x.from, subst (Contains (found ++ (x ∷ []))) (λ i. record { function = g.is i; from = x.from; object = q i }) (Contains-push found x))
          ],
          λ b k. subst (λ l. Contains l b) (sym g.grew) (elim (Contains-push_cases found x (at k.0 b) k.1) [
            | inl w ↦ kept adds b ((h m g.old g.was).1 b (k.0, w))
            | inr q ↦ adds.added b (ap (λ (z : Known Object). z.object) q)
          ]),
        )

    same : Stayed x.function lists m os → IsExactly os (λ b. (w : Option Object) × IsIn (found ++ (x ∷ [])) m w b)
    same s = (
      λ b k. let p = (h m os s.was).0 b k in (p.0, Contains-append_left found (x ∷ []) (at p.0 b) p.1),
      λ b k. elim (Contains-push_cases found x (at k.0 b) k.1) [
        | inl w ↦ (h m os s.was).1 b (k.0, w)
        | inr q ↦ absurd (s.other (ap (λ (z : Known Object). z.function) q))
      ],
    )

-- the next of what was found
pub sets-next : (found : List (Known Object)) (i : ℕ) (x : Known Object) (old new : List (List Object)) → i < length found → x ≡ get_or found i x → new ≡ with_known x.function x.object old → AreSets (take i found) old → AreSets (take (i + 1) found) new
sets-next found i x old new l e k h =
    let more : take (i + 1) found ≡ take i found ++ (x ∷ []) = take_more found i x l ∙ ap (λ (z : Known Object). take i found ++ (z ∷ [])) (sym e) in
    subst (λ ys. AreSets ys new) (sym more) (subst (AreSets (take i found ++ (x ∷ []))) (sym k) (sets-more (take i found) x old h))

pub sets-all : (found : List (Known Object)) (i : ℕ) (lists : List (List Object)) → length found ≤ i → AreSets (take i found) lists → AreSets found lists
sets-all found i lists l h = subst (λ ys. AreSets ys lists) (take_all i found l) h

-- ---- each once

abbrev pub AreEachDistinct : List (List Object) → Type 0
AreEachDistinct lists = (n : ℕ) (os : List Object) → slice_get lists n ≡ Some os → IsDistinct same_object os

pub none-distinct : (n : ℕ) → AreEachDistinct (replicate n [])
unfolding IsDistinct
none-distinct n m os e = subst (IsDistinct same_object) (sym (none-at n m os e)) tt

insert-distinct : (os : List Object) (o : Object) → IsDistinct same_object os → IsDistinct same_object (insert_key same_object os o)
insert-distinct os o h = by (list_any (same_object o) os) refl
  where
    by : (b : Bool) → list_any (same_object o) os ≡ b → IsDistinct same_object (if b then os else os ++ (o ∷ []))
    by true e = h
    by false e = IsDistinct-push objects_equiv os o h e

pub distinct-next : (n : ℕ) (o : Object) (old new : List (List Object)) → new ≡ with_known n o old → AreEachDistinct old → AreEachDistinct new
distinct-next n o old new k h m os e = elim (known-at n o old m os (subst (λ ls. slice_get ls m ≡ Some os) k e)) [
  | inl g ↦ subst (IsDistinct same_object) (sym g.grew) (insert-distinct g.old o (h m g.old g.was))
  | inr s ↦ h m os s.was
]

pub each-once : (lists : List (List Object)) → AreEachDistinct lists → AreOnce lists
each-once lists h n os e = once same_object same_object-refl os (h n os e)

-- ---- the sets in which the lists stand

module _ {V : Type 0} (keys : V → List Object) where
  -- one of them was written over by what it was with one object more
  pub written-over : (xs : List V) (n : ℕ) (o : Object) (old new : V) → n < length xs → old ≡ get_or xs n old → keys new ≡ insert_key same_object (keys old) o → map keys (slice_set xs n new) ≡ with_known n o (map keys xs)
  written-over [] n o old new l e k = absurd (omega (arith, l))
  written-over (x ∷ xs) zero o old new l e k = ap (λ (os : List Object). os ∷ map keys xs) (k ∙ ap (λ v. insert_key same_object (keys v) o) e)
  written-over (x ∷ xs) (suc n) o old new l e k = ap (λ (ys : List (List Object)). keys x ∷ ys) (written-over xs n o old new (omega (arith, l)) e k)

  -- there is none of this function
  pub past-all : (xs : List V) (n : ℕ) (o : Object) → length xs ≤ n → map keys xs ≡ with_known n o (map keys xs)
  past-all [] n o l = refl
  past-all (x ∷ xs) zero o l = absurd (omega (arith, l))
  past-all (x ∷ xs) (suc n) o l = ap (λ (ys : List (List Object)). keys x ∷ ys) (past-all xs n o (omega (arith, l)))

  -- there are as many as before
  pub same-count : (old new : List V) (n : ℕ) (o : Object) → map keys new ≡ with_known n o (map keys old) → length new ≡ length old
  same-count old new n o e = sym (length-map new keys) ∙ ap length e ∙ known-count n o (map keys old) ∙ length-map old keys

  -- one empty set more
  one-more : (n : ℕ) → replicate {A = List Object} n [] ++ ([] ∷ []) ≡ replicate (n + 1) []
  one-more zero = refl
  one-more (suc n) = ap (λ xs. [] ∷ xs) (one-more n) ∙ ap (λ k. replicate k []) (let e : suc (n + 1) ≡ suc n + 1 = grind arith in e)

  pub empty-next : (old new : List V) (v : V) (n : ℕ) → new ≡ old ++ (v ∷ []) → keys v ≡ [] → map keys old ≡ replicate n [] → map keys new ≡ replicate (n + 1) []
  empty-next old new v n e empty are =
      ap (map keys) e
      ∙ map-append keys old (v ∷ [])
      ∙ ap (λ (l : List Object). map keys old ++ (l ∷ [])) empty
      ∙ ap (λ (ls : List (List Object)). ls ++ ([] ∷ [])) are
      ∙ one-more n

  pub empty-all : (sets : List V) (n count : ℕ) → n ≤ count → count ≤ n → map keys sets ≡ replicate n [] → map keys sets ≡ replicate count []
  empty-all sets n count l m are = are ∙ ap (λ k. replicate k []) (let e : n ≡ count = omega (arith, l, m) in e)
