-- Objects that are put into lists one after the other.
use Rattle.std.proofs.Common.{arith, ◌≡◌, ◌⊎◌, inl, inr, ℕ, zero, suc, ◌+◌, ◌<◌, ◌≤◌, List, [], ◌∷◌, ◌++◌, Contains, map, replicate, length, take, get_or, Vec, Some, refl, sym, ap, ◌∙◌, subst}
use Rattle.std.specs.Prelude.{slice_get, slice_set}
use Rattle.std.proofs.lemmas.List.{take_more, take_all, length-map, map-append}
use Rattle.std.proofs.lemmas.List.Elements.{Contains-append_left, Contains-push, Contains-push_cases}
use Rattle.std.proofs.lemmas.Option.{same_Some}
use Rattle.c_objects.specs.Objects.{Object}
use Rattle.least_set.specs.Logs.{IsExactly}
use Rattle.least_set.proofs.Growing.{nothing}
use Rattle.relevant.specs.RelevantLists.Filed.{with_member, AreFiled}
use Rattle.path_model.specs.CheckerGraphs.Members.{Member}

-- ---- one list more, and one object more in a list

pub one-more-empty : {A : Type 0} (n : ℕ) → replicate {A = List A} n [] ++ ([] ∷ []) ≡ replicate (n + 1) []
one-more-empty zero = refl
one-more-empty (suc n) = ap (λ xs. [] ∷ xs) (one-more-empty n) ∙ ap (λ k. replicate k []) (let e : suc (n + 1) ≡ suc n + 1 = grind arith in e)

pub member-count : (n : ℕ) (o : Object) (lists : List (List Object)) → length (with_member n o lists) ≡ length lists
member-count n o [] = refl
member-count zero o (os ∷ lists) = refl
member-count (suc n) o (os ∷ lists) = ap suc (member-count n o lists)

-- a list that grew is that of the function
record Grew (n : ℕ) (o : Object) (lists : List (List Object)) (m : ℕ) (os : List Object) : Type 0 where
  is : n ≡ m
  old : List Object
  was : slice_get lists m ≡ Some old
  grew : os ≡ old ++ (o ∷ [])

-- and all others are what they were
record Stayed (n : ℕ) (lists : List (List Object)) (m : ℕ) (os : List Object) : Type 0 where
  other : n ≡ m → ⊥
  was : slice_get lists m ≡ Some os

member-at : (n : ℕ) (o : Object) (lists : List (List Object)) (m : ℕ) (os : List Object) → slice_get (with_member n o lists) m ≡ Some os → Grew n o lists m os ⊎ Stayed n lists m os
member-at n o [] m os e = cc
member-at zero o (x ∷ lists) zero os e = inl (record { is = refl; old = x; was = refl; grew = sym (same_Some (x ++ (o ∷ [])) os e) })
member-at zero o (x ∷ lists) (suc m) os e = inr (record { other = λ k. omega (arith, k); was = e })
member-at (suc n) o (x ∷ lists) zero os e = inr (record { other = λ k. omega (arith, k); was = e })
member-at (suc n) o (x ∷ lists) (suc m) os e = elim (member-at n o lists m os e) [
  | inl g ↦ inl (record { is = ap suc g.is; old = g.old; was = g.was; grew = g.grew })
  | inr s ↦ inr (record { other = λ k. s.other (let j : n ≡ m = omega (arith, k) in j); was = s.was })
]

-- ---- the lists of what was gone through

none-at : (n m : ℕ) (os : List Object) → slice_get (replicate n []) m ≡ Some os → os ≡ []
none-at zero m os e = cc
none-at (suc n) zero os e = sym (same_Some [] os e)
none-at (suc n) (suc m) os e = none-at n m os e

pub none-filed : (n : ℕ) → AreFiled [] (replicate n [])
none-filed n m os e = (
  λ o h. absurd (nothing o (subst (λ l. Contains l o) (none-at n m os e) h)),
  λ o h. absurd (nothing {M = Member} (m, o) h),
)

pub filed-more : (ms : List Member) (n : ℕ) (o : Object) (lists : List (List Object)) → AreFiled ms lists → AreFiled (ms ++ ((n, o) ∷ [])) (with_member n o lists)
filed-more ms n o lists h m os e = elim (member-at n o lists m os e) [ inl g ↦ grown g | inr s ↦ same s ]
  where
    grown : Grew n o lists m os → IsExactly os (λ b. Contains (ms ++ ((n, o) ∷ [])) (m, b))
    grown g = (
      λ b k. elim (Contains-push_cases g.old o b (subst (λ l. Contains l b) g.grew k)) [
        | inl w ↦ Contains-append_left ms ((n, o) ∷ []) (m, b) ((h m g.old g.was).0 b w)
        | inr q ↦ subst (Contains (ms ++ ((n, o) ∷ []))) (λ i. (g.is i, q i)) (Contains-push ms (n, o))
      ],
      λ b k. subst (λ l. Contains l b) (sym g.grew) (elim (Contains-push_cases ms (n, o) (m, b) k) [
        | inl w ↦ Contains-append_left g.old (o ∷ []) b ((h m g.old g.was).1 b w)
        | inr q ↦ subst (Contains (g.old ++ (o ∷ []))) (ap (λ (x : Member). x.1) q) (Contains-push g.old o)
      ]),
    )

    same : Stayed n lists m os → IsExactly os (λ b. Contains (ms ++ ((n, o) ∷ [])) (m, b))
    same s = (
      λ b k. Contains-append_left ms ((n, o) ∷ []) (m, b) ((h m os s.was).0 b k),
      λ b k. elim (Contains-push_cases ms (n, o) (m, b) k) [
        | inl w ↦ (h m os s.was).1 b w
        | inr q ↦ absurd (s.other (ap (λ (x : Member). x.0) q))
      ],
    )

-- the next of the members
pub filed-next : (ms : List Member) (i : ℕ) (x : Member) (old new : List (List Object)) → i < length ms → x ≡ get_or ms i x → new ≡ with_member x.0 x.1 old → AreFiled (take i ms) old → AreFiled (take (i + 1) ms) new
filed-next ms i x old new l e k h =
    let more : take (i + 1) ms ≡ take i ms ++ (x ∷ []) = take_more ms i x l ∙ ap (λ (z : Member). take i ms ++ (z ∷ [])) (sym e) in
    subst (λ ys. AreFiled ys new) (sym more) (subst (AreFiled (take i ms ++ (x ∷ []))) (sym k) (filed-more (take i ms) x.0 x.1 old h))

-- all members
pub filed-all : (ms : List Member) (i : ℕ) (lists : List (List Object)) → length ms ≤ i → AreFiled (take i ms) lists → AreFiled ms lists
filed-all ms i lists l h = subst (λ ys. AreFiled ys lists) (take_all i ms l) h

-- ---- the vectors in which the lists stand

-- one of them was written over by what it was with one object more
pub written-over : {Z : Type 0} (xs : List (Vec Object Z)) (n : ℕ) (o : Object) (old new : Vec Object Z) → n < length xs → old ≡ get_or xs n old → new.items ≡ old.items ++ (o ∷ [])
    → map (λ (os : Vec Object Z). os.items) (slice_set xs n new) ≡ with_member n o (map (λ (os : Vec Object Z). os.items) xs)
written-over [] n o old new l e k = absurd (omega (arith, l))
written-over (x ∷ xs) zero o old new l e k = ap (λ (os : List Object). os ∷ map (λ (v : Vec Object _). v.items) xs) (k ∙ ap (λ (v : Vec Object _). v.items ++ (o ∷ [])) e)
written-over (x ∷ xs) (suc n) o old new l e k = ap (λ (ys : List (List Object)). x.items ∷ ys) (written-over xs n o old new (omega (arith, l)) e k)

-- there is none of this function
pub past-all : {Z : Type 0} (xs : List (Vec Object Z)) (n : ℕ) (o : Object) → length xs ≤ n → map (λ (os : Vec Object Z). os.items) xs ≡ with_member n o (map (λ (os : Vec Object Z). os.items) xs)
past-all [] n o l = refl
past-all (x ∷ xs) zero o l = absurd (omega (arith, l))
past-all (x ∷ xs) (suc n) o l = ap (λ (ys : List (List Object)). x.items ∷ ys) (past-all xs n o (omega (arith, l)))

-- there are as many lists as before
pub items-count : {Z : Type 0} (old new : List (Vec Object Z)) (n : ℕ) (o : Object) → map (λ (os : Vec Object Z). os.items) new ≡ with_member n o (map (λ (os : Vec Object Z). os.items) old) → length new ≡ length old
items-count old new n o e =
    sym (length-map new (λ (os : Vec Object _). os.items)) ∙ ap length e ∙ member-count n o (map (λ (os : Vec Object _). os.items) old) ∙ length-map old (λ (os : Vec Object _). os.items)

-- one list without objects more
pub lists-next : {Z : Type 0} (old new : List (Vec Object Z)) (v : Vec Object Z) (n : ℕ) → new ≡ old ++ (v ∷ []) → v.items ≡ [] → map (λ (os : Vec Object Z). os.items) old ≡ replicate n []
    → map (λ (os : Vec Object Z). os.items) new ≡ replicate (n + 1) []
lists-next old new v n e empty are =
    ap (map (λ (os : Vec Object _). os.items)) e
    ∙ map-append (λ (os : Vec Object _). os.items) old (v ∷ [])
    ∙ ap (λ (l : List Object). map (λ (os : Vec Object _). os.items) old ++ (l ∷ [])) empty
    ∙ ap (λ (ls : List (List Object)). ls ++ ([] ∷ [])) are
    ∙ one-more-empty n

pub lists-all : {Z : Type 0} (lists : List (Vec Object Z)) (n count : ℕ) → n ≤ count → count ≤ n → map (λ (os : Vec Object Z). os.items) lists ≡ replicate n [] → map (λ (os : Vec Object Z). os.items) lists ≡ replicate count []
lists-all lists n count l m are = are ∙ ap (λ k. replicate k []) (let e : n ≡ count = omega (arith, l, m) in e)
