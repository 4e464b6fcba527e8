-- Lists that are made of what each of another list gives.
use Rattle.std.proofs.Common.{arith, ◌≡◌, inl, inr, ℕ, suc, ◌+◌, ◌<◌, ◌≤◌, List, [], ◌∷◌, ◌++◌, length, get_or, take, map, Contains, Option, None, Some, refl, sym, ap, subst, ◌∙◌, append_assoc, append-nil}
use Rattle.std.specs.Prelude.{flat_map}
use Rattle.std.specs.List.{enumerate_from}
use Rattle.std.specs.Option.{option_to_list}
use Rattle.std.proofs.lemmas.List.{take_more, take_all, map-append, length-map, length-take}
use Rattle.std.proofs.lemmas.Grind.{flat_map-append}
use Rattle.std.proofs.lemmas.List.Elements.{Contains-append_left, Contains-append_right, Contains-append_cases, Contains-push, Contains-push_cases}
use Rattle.flow_graph.specs.CPaths.Membership.{Among}

module _ {A B C : Type 0} (f : C → List B) (v : A → C) (xs : List A) where
  -- nothing was passed
  pub given-none : (before : List B) → before ≡ before ++ flat_map f (map v (take 0 xs))
  given-none before = sym (append-nil before)

  -- one more was passed, and what it gives stands behind
  pub given-next : (i : ℕ) (d : A) (before old new : List B) → i < length xs → old ≡ before ++ flat_map f (map v (take i xs)) → new ≡ old ++ f (v (get_or xs i d))
      → new ≡ before ++ flat_map f (map v (take (i + 1) xs))
  given-next i d before old new h o n =
      n
      ∙ ap (λ z. z ++ f (v (get_or xs i d))) o
      ∙ append_assoc before (flat_map f (map v (take i xs))) (f (v (get_or xs i d)))
      ∙ ap (λ z. before ++ (flat_map f (map v (take i xs)) ++ z)) (sym (append-nil (f (v (get_or xs i d)))))
      ∙ ap (λ z. before ++ z) (sym (flat_map-append f (map v (take i xs)) (v (get_or xs i d) ∷ [])))
      ∙ ap (λ z. before ++ flat_map f z) (sym (map-append v (take i xs) (get_or xs i d ∷ [])))
      ∙ ap (λ z. before ++ flat_map f (map v z)) (sym (take_more xs i d h))

  -- all were
  pub given-all : (i : ℕ) (before all : List B) → length xs ≤ i → all ≡ before ++ flat_map f (map v (take i xs)) → all ≡ before ++ flat_map f (map v xs)
  given-all i before all h a = a ∙ ap (λ z. before ++ flat_map f (map v z)) (take_all i xs h)

-- ---- lists with their numbers

numbered-last : {A : Type 0} (n : ℕ) (xs : List A) (x : A) → enumerate_from n (xs ++ x ∷ []) ≡ enumerate_from n xs ++ (n + length xs, x) ∷ []
numbered-last {A = A} n [] x = let none : n ≡ n + 0 = omega arith in ap {B = List (ℕ × A)} (λ k. (k, x) ∷ []) none
numbered-last {A = A} n (y ∷ ys) x =
    let more : n + 1 + length ys ≡ n + suc (length ys) = omega arith in
    ap (λ z. (n, y) ∷ z) (numbered-last (n + 1) ys x) ∙ ap (λ (k : ℕ). (n, y) ∷ (enumerate_from (n + 1) ys ++ (k, x) ∷ [])) more

module _ {A B C : Type 0} (f : ℕ × C → List B) (v : A → C) (xs : List A) where
  numbered-more : (i : ℕ) (d : A) → i < length xs
      → enumerate_from 0 (map v (take (i + 1) xs)) ≡ enumerate_from 0 (map v (take i xs)) ++ (i, v (get_or xs i d)) ∷ []
  numbered-more i d h =
      let long : 0 + length (map v (take i xs)) ≡ i = simp (length-map, length-take) (omega arith) in
      ap (λ z. enumerate_from 0 (map v z)) (take_more xs i d h)
      ∙ ap (enumerate_from 0) (map-append v (take i xs) (get_or xs i d ∷ []))
      ∙ numbered-last 0 (map v (take i xs)) (v (get_or xs i d))
      ∙ ap (λ (k : ℕ). enumerate_from 0 (map v (take i xs)) ++ (k, v (get_or xs i d)) ∷ []) long

  -- one more was passed, and what it gives by its number stands behind
  pub numbered-next : (i : ℕ) (d : A) (before old new : List B) → i < length xs → old ≡ before ++ flat_map f (enumerate_from 0 (map v (take i xs)))
      → new ≡ old ++ f (i, v (get_or xs i d)) → new ≡ before ++ flat_map f (enumerate_from 0 (map v (take (i + 1) xs)))
  numbered-next i d before old new h o n =
      n
      ∙ ap (λ z. z ++ f (i, v (get_or xs i d))) o
      ∙ append_assoc before (flat_map f (enumerate_from 0 (map v (take i xs)))) (f (i, v (get_or xs i d)))
      ∙ ap (λ z. before ++ (flat_map f (enumerate_from 0 (map v (take i xs))) ++ z)) (sym (append-nil (f (i, v (get_or xs i d)))))
      ∙ ap (λ z. before ++ z) (sym (flat_map-append f (enumerate_from 0 (map v (take i xs))) ((i, v (get_or xs i d)) ∷ [])))
      ∙ ap (λ z. before ++ flat_map f z) (sym (numbered-more i d h))

  -- all were
  pub numbered-all : (i : ℕ) (before all : List B) → length xs ≤ i → all ≡ before ++ flat_map f (enumerate_from 0 (map v (take i xs)))
      → all ≡ before ++ flat_map f (enumerate_from 0 (map v xs))
  numbered-all i before all h a = a ∙ ap (λ z. before ++ flat_map f (enumerate_from 0 (map v z))) (take_all i xs h)

-- what stands in a list has a number there
module _ {A : Type 0} where
  pub with-number : (n : ℕ) (xs : List A) (x : A) → Among x xs → (k : ℕ) × Among (k, x) (enumerate_from n xs)
  with-number n [] x h = absurd h
  with-number n (y ∷ ys) x (inl e) = (n, inl (ap {B = ℕ × A} (λ z. (n, z)) e))
  with-number n (y ∷ ys) x (inr h) = let s = with-number (n + 1) ys x h in (s.0, inr s.1)

  pub without-number : (n : ℕ) (xs : List A) (p : ℕ × A) → Among p (enumerate_from n xs) → Among p.1 xs
  without-number n [] p h = absurd h
  without-number n (y ∷ ys) p (inl e) = inl (ap (λ (z : ℕ × A). z.1) e)
  without-number n (y ∷ ys) p (inr h) = inr (without-number (n + 1) ys p h)

-- ---- what stands in a list

module _ {A : Type 0} where
  pub among : (xs : List A) (x : A) → Contains xs x → Among x xs
  among [] x h = let lt = h.1 in absurd (omega arith)
  among (y ∷ ys) x h = elim (Contains-append_cases (y ∷ []) ys x h) [ inl a ↦ inl (one a) | inr b ↦ inr (among ys x b) ]
    where
      one : Contains (y ∷ []) x → x ≡ y
      one k = elim (Contains-push_cases [] y x k) [ inl n ↦ (let lt = n.1 in absurd (omega arith)) | inr e ↦ sym e ]

  pub contained : (xs : List A) (x : A) → Among x xs → Contains xs x
  contained [] x h = absurd h
  contained (y ∷ ys) x (inl e) = Contains-append_left (y ∷ []) ys x (subst (Contains (y ∷ [])) (sym e) (Contains-push [] y))
  contained (y ∷ ys) x (inr h) = Contains-append_right (y ∷ []) ys x (contained ys x h)

module _ {A B : Type 0} (f : A → List B) where
  -- what is given stands in the list
  pub given-stands : (xs : List A) (x : A) (y : B) → Contains xs x → Contains (f x) y → Contains (flat_map f xs) y
  given-stands xs x y h k = by xs (among xs x h)
    where
      by : (zs : List A) → Among x zs → Contains (flat_map f zs) y
      by [] m = absurd m
      by (z ∷ zs) (inl e) = Contains-append_left (f z) (flat_map f zs) y (subst (λ w. Contains (f w) y) e k)
      by (z ∷ zs) (inr m) = Contains-append_right (f z) (flat_map f zs) y (by zs m)

  -- what stands in it is given by one
  pub stands-given : (xs : List A) (y : B) → Contains (flat_map f xs) y → (x : A) × Contains xs x × Contains (f x) y
  stands-given [] y h = let lt = h.1 in absurd (omega arith)
  stands-given (x ∷ xs) y h = elim (Contains-append_cases (f x) (flat_map f xs) y h) [
    | inl a ↦ (x, contained (x ∷ xs) x (inl refl), a)
    | inr b ↦ (let s = stands-given xs y b in (s.0, Contains-append_right (x ∷ []) xs s.0 s.1, s.2))
  ]

-- what may be missing, as a list
pub the-one : {A : Type 0} (o : Option A) (x : A) → Contains (option_to_list o) x → o ≡ Some x
the-one None x h = let lt = h.1 in absurd (omega arith)
the-one (Some y) x h = elim (among (y ∷ []) x h) [ inl e ↦ ap Some (sym e) | inr b ↦ absurd b ]

pub one-stands : {A : Type 0} (o : Option A) (x : A) → o ≡ Some x → Contains (option_to_list o) x
one-stands {A = A} o x e = subst (λ (z : Option A). Contains (option_to_list z) x) (sym e) (Contains-push [] x)
