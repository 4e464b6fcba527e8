-- Whether a list has two names of another one, and whether one has a name of another.
use Rattle.std.proofs.Common.{◌≡◌, ℕ, suc, ◌+◌, ◌<◌, ◌≤◌, Bool, true, false, cond, not, nat_eq, ◌||◌, ◌&&◌, List, [], ◌∷◌, length, get_or, drop, filter, None, Some, ap, refl, ◌∙◌, sym, add-one, drop-cons}
use Rattle.std.proofs.lemmas.List.{drop_all}
use Rattle.metal_grammar.specs.Rules.{is_among}
use Rattle.metal_grammar.specs.Faults.{any_of, differ, is_other_among}
use Rattle.metal_grammar.proofs.Numbered.{equal, same, differs}
use Rattle.metal_numbers.specs.MetalRules.RuleFaults.{first_of, another_named}

pub equal_tests : (a b : Bool) → (a ≡ true → b ≡ true) → (b ≡ true → a ≡ true) → a ≡ b
equal_tests true b f g = sym (f refl)
equal_tests false true f g = g refl
equal_tests false false f g = refl

-- the first of those behind i that pass a test
pub first_over : (p : ℕ → Bool) (xs : List ℕ) (i d : ℕ) → i < length xs → p (get_or xs i d) ≡ false → first_of (filter p (drop (i + 1) xs)) ≡ first_of (filter p (drop i xs))
first_over p xs i d h n =
    ap (λ j. first_of (filter p (drop j xs))) (add-one i)
    ∙ sym (ap (λ ys. first_of (filter p ys)) (drop-cons xs i d h) ∙ ap (λ b. first_of (cond b (get_or xs i d ∷ filter p (drop (suc i) xs)) (filter p (drop (suc i) xs)))) n)

pub first_here : (p : ℕ → Bool) (xs : List ℕ) (i d : ℕ) → i < length xs → p (get_or xs i d) ≡ true → first_of (filter p (drop i xs)) ≡ Some (get_or xs i d)
first_here p xs i d h n =
    ap (λ ys. first_of (filter p ys)) (drop-cons xs i d h) ∙ ap (λ b. first_of (cond b (get_or xs i d ∷ filter p (drop (suc i) xs)) (filter p (drop (suc i) xs)))) n

pub first_past : (p : ℕ → Bool) (xs : List ℕ) (i : ℕ) → length xs ≤ i → first_of (filter p (drop i xs)) ≡ None
first_past p xs i h = ap (λ ys. first_of (filter p ys)) (drop_all i xs h)

pub any_over : {A : Type 0} (p : A → Bool) (xs : List A) (i : ℕ) (d : A) → i < length xs → any_of p (drop i xs) ≡ (p (get_or xs i d) || any_of p (drop (i + 1) xs))
any_over p xs i d h = ap (any_of p) (drop-cons xs i d h) ∙ ap (λ j. p (get_or xs i d) || any_of p (drop j xs)) (sym (add-one i))

pub any_past : {A : Type 0} (p : A → Bool) (xs : List A) (i : ℕ) → length xs ≤ i → any_of p (drop i xs) ≡ false
any_past p xs i h = ap (any_of p) (drop_all i xs h)

pub ruleset chosen = (first_over, first_here, first_past, any_over, any_past)

right : (a b : Bool) → b ≡ true → (a || b) ≡ true
right true b h = refl
right false b h = h

has-step : (is : ℕ → Bool) (x y : ℕ) (b c r s : Bool) → nat_eq y x ≡ b → is y ≡ c → (b || r) ≡ true → is x ≡ true → (r ≡ true → s ≡ true) → (c || s) ≡ true
has-step is x y b true r s p q h t i = refl
has-step is x y true false r s p q h t i = let e = equal y x p in let f : is y ≡ true = ap is e ∙ t in cc
has-step is x y false false r s p q h t i = i h

-- A test of one that is there holds of some.
pub some_has : (is : ℕ → Bool) (xs : List ℕ) (x : ℕ) → is_among xs x ≡ true → is x ≡ true → any_of is xs ≡ true
some_has is [] x h t = cc
some_has is (y ∷ ys) x h t = has-step is x y (nat_eq y x) (is y) (is_among ys x) (any_of is ys) refl refl h t (λ r. some_has is ys x r t)

-- one of these passes the test
pub record Has (is : ℕ → Bool) (xs : List ℕ) : Type 0 where
  pub one : ℕ
  pub among : is_among xs one ≡ true
  pub passes : is one ≡ true

one-step : (is : ℕ → Bool) (y : ℕ) (ys : List ℕ) (b : Bool) → is y ≡ b → (b || any_of is ys) ≡ true → (any_of is ys ≡ true → Has is ys) → Has is (y ∷ ys)
one-step is y ys true p h i = record { one = y; among = ap (λ b. b || is_among ys y) (same y y refl); passes = p }
one-step is y ys false p h i = let o = i h in record { one = o.one; among = right (nat_eq y o.one) (is_among ys o.one) o.among; passes = o.passes }

pub one_has : (is : ℕ → Bool) (xs : List ℕ) → any_of is xs ≡ true → Has is xs
one_has is [] h = cc
one_has is (y ∷ ys) h = one-step is y ys (is y) refl h (λ r. one_has is ys r)

swap-one : (ns bs : List ℕ) → any_of (is_among ns) bs ≡ true → any_of (is_among bs) ns ≡ true
swap-one ns bs h = let o = one_has (is_among ns) bs h in some_has (is_among bs) ns o.one o.passes o.among

-- Some name of the one list stands in the other, and the other way round.
pub any_swap : (xs ys : List ℕ) → any_of (is_among xs) ys ≡ any_of (is_among ys) xs
any_swap xs ys = equal_tests _ _ (swap-one xs ys) (swap-one ys xs)

those-step : (p : ℕ → Bool) (x n : ℕ) (xs : List ℕ) (b c : Bool) → p x ≡ b → nat_eq x n ≡ c → is_among (cond b (x ∷ filter p xs) (filter p xs)) n ≡ true
    → (is_among (filter p xs) n ≡ true → (is_among xs n ≡ true) × (p n ≡ true)) → ((c || is_among xs n) ≡ true) × (p n ≡ true)
those-step p x n xs true true e f g i = (refl, ap p (sym (equal x n f)) ∙ e)
those-step p x n xs true false e f g i = i (sym (ap (λ a. a || is_among (filter p xs) n) f) ∙ g)
those-step p x n xs false true e f g i = (refl, (i g).1)
those-step p x n xs false false e f g i = i g

pub among_those : (p : ℕ → Bool) (xs : List ℕ) (n : ℕ) → is_among (filter p xs) n ≡ true → (is_among xs n ≡ true) × (p n ≡ true)
among_those p [] n h = cc
among_those p (x ∷ xs) n h = those-step p x n xs (p x) (nat_eq x n) refl refl h (λ g. among_those p xs n g)

in-step : (p : ℕ → Bool) (x n : ℕ) (xs : List ℕ) (b c : Bool) → p x ≡ b → nat_eq x n ≡ c → (c || is_among xs n) ≡ true → p n ≡ true
    → (is_among xs n ≡ true → is_among (filter p xs) n ≡ true) → is_among (cond b (x ∷ filter p xs) (filter p xs)) n ≡ true
in-step p x n xs true true e f g t i = ap (λ a. a || is_among (filter p xs) n) f
in-step p x n xs true false e f g t i = ap (λ a. a || is_among (filter p xs) n) f ∙ i g
in-step p x n xs false true e f g t i = let j : p x ≡ true = ap p (equal x n f) ∙ t in cc
in-step p x n xs false false e f g t i = i g

pub those_among : (p : ℕ → Bool) (xs : List ℕ) (n : ℕ) → is_among xs n ≡ true → p n ≡ true → is_among (filter p xs) n ≡ true
those_among p [] n h t = cc
those_among p (x ∷ xs) n h t = in-step p x n xs (p x) (nat_eq x n) refl refl h t (λ g. those_among p xs n g t)

other-step : (m n a : ℕ) (b c r s : Bool) → nat_eq m a ≡ b → nat_eq m n ≡ c → (b || r) ≡ true → nat_eq a n ≡ false → (r ≡ true → s ≡ true) → (not c || s) ≡ true
other-step m n a b false r s p q h t i = refl
other-step m n a true true r s p q h t i = let e : nat_eq a n ≡ true = ap (λ k. nat_eq k n) (sym (equal m a p)) ∙ q in cc
other-step m n a false true r s p q h t i = i h

other_among : (ns : List ℕ) (n a : ℕ) → is_among ns a ≡ true → nat_eq a n ≡ false → is_other_among ns n ≡ true
other_among [] n a h t = cc
other_among (m ∷ ms) n a h t = other-step m n a (nat_eq m a) (nat_eq m n) (is_among ms a) (is_other_among ms n) refl refl h t (λ r. other_among ms n a r t)

-- one of these that isn't n
record Other (ns : List ℕ) (n : ℕ) : Type 0 where
  pub one : ℕ
  pub among : is_among ns one ≡ true
  pub apart : nat_eq one n ≡ false

apart-step : (m n : ℕ) (ms : List ℕ) (c : Bool) → nat_eq m n ≡ c → (not c || is_other_among ms n) ≡ true → (is_other_among ms n ≡ true → Other ms n) → Other (m ∷ ms) n
apart-step m n ms false p h i = record { one = m; among = ap (λ b. b || is_among ms m) (same m m refl); apart = p }
apart-step m n ms true p h i = let o = i h in record { one = o.one; among = right (nat_eq m o.one) (is_among ms o.one) o.among; apart = o.apart }

among_other : (ns : List ℕ) (n : ℕ) → is_other_among ns n ≡ true → Other ns n
among_other [] n h = cc
among_other (m ∷ ms) n h = apart-step m n ms (nat_eq m n) refl h (λ r. among_other ms n r)

flip : (x y : ℕ) → nat_eq x y ≡ false → nat_eq y x ≡ false
flip x y h = differs y x (λ e. let f = same x y (sym e) in cc)

two-step : (n a b : ℕ) (ns : List ℕ) (c e : Bool) → nat_eq n a ≡ c → nat_eq n b ≡ e → (c || is_among ns a) ≡ true → (e || is_among ns b) ≡ true → nat_eq a b ≡ false → is_other_among ns n ≡ true
two-step n a b ns false e p q r s t = other_among ns n a r (flip n a p)
two-step n a b ns true false p q r s t = other_among ns n b s (flip n b q)
two-step n a b ns true true p q r s t = let i : a ≡ b = sym (equal n a p) ∙ equal n b q in let j = same a b i in cc

two_differ : (ls : List ℕ) (a b : ℕ) → is_among ls a ≡ true → is_among ls b ≡ true → nat_eq a b ≡ false → differ ls ≡ true
two_differ [] a b h k t = cc
two_differ (n ∷ ns) a b h k t = two-step n a b ns (nat_eq n a) (nat_eq n b) refl refl h k t

-- two of these that differ
record Two (ls : List ℕ) : Type 0 where
  pub one : ℕ
  pub another : ℕ
  pub among : is_among ls one ≡ true
  pub among_too : is_among ls another ≡ true
  pub apart : nat_eq one another ≡ false

differ_two : (ls : List ℕ) → differ ls ≡ true → Two ls
differ_two [] h = cc
differ_two (n ∷ ns) h = let o = among_other ns n h in
    record { one = o.one; another = n; among = right (nat_eq n o.one) (is_among ns o.one) o.among; among_too = ap (λ b. b || is_among ns n) (same n n refl); apart = o.apart }

first-of : (ys : List ℕ) (f : ℕ) → first_of ys ≡ Some f → is_among ys f ≡ true
first-of [] f e = cc
first-of (y ∷ ys) f e = let i : y ≡ f = cc in ap (λ b. b || is_among ys f) (same y f i)

none-of : (ys : List ℕ) (n : ℕ) → first_of ys ≡ None → is_among ys n ≡ true → ⊥
none-of [] n e g = cc
none-of (y ∷ ys) n e g = cc

first_those : (p : ℕ → Bool) (xs : List ℕ) (f : ℕ) → first_of (filter p xs) ≡ Some f → (is_among xs f ≡ true) × (p f ≡ true)
first_those p xs f h = among_those p xs f (first-of (filter p xs) f h)

none_those : (p : ℕ → Bool) (xs : List ℕ) (n : ℕ) → first_of (filter p xs) ≡ None → is_among xs n ≡ true → p n ≡ true → ⊥
none_those p xs n h i t = none-of (filter p xs) n h (those_among p xs n i t)

never-true : (b : Bool) → (b ≡ true → ⊥) → b ≡ false
never-true true h = absurd (h refl)
never-true false h = refl

-- no variable is named
pub two_none : (vs ms : List ℕ) → first_of (filter (is_among ms) vs) ≡ None → differ (filter (is_among vs) ms) ≡ false
two_none vs ms h = never-true (differ (filter (is_among vs) ms)) (λ e.
    let o = differ_two (filter (is_among vs) ms) e in
    let a = among_those (is_among vs) ms o.one o.among in
    none_those (is_among ms) vs o.one h a.1 a.0)

parts : (a b : Bool) → (a && not b) ≡ true → (a ≡ true) × (b ≡ false)
parts true false e = (refl, refl)
parts true true e = cc
parts false b e = cc

both : (a b : Bool) → a ≡ true → b ≡ false → (a && not b) ≡ true
both a b e g = rw (e, g) refl

one-of-two : (vs ms : List ℕ) (f x y : ℕ) (c : Bool) → nat_eq x f ≡ c → (is_among ms x ≡ true) × (is_among vs x ≡ true) → (is_among ms y ≡ true) × (is_among vs y ≡ true) → nat_eq x y ≡ false
    → any_of (another_named ms f) vs ≡ true
one-of-two vs ms f x y false p a b n = some_has (another_named ms f) vs x a.1 (both (is_among ms x) (nat_eq x f) a.0 p)
one-of-two vs ms f x y true p a b n =
    let i : nat_eq y f ≡ false = differs y f (λ g. let j : nat_eq x y ≡ true = same x y (equal x f p ∙ sym g) in cc) in
    some_has (another_named ms f) vs y b.1 (both (is_among ms y) (nat_eq y f) b.0 i)

-- this one is named, and maybe another one
pub two_some : (vs ms : List ℕ) (f : ℕ) → first_of (filter (is_among ms) vs) ≡ Some f → any_of (another_named ms f) vs ≡ differ (filter (is_among vs) ms)
two_some vs ms f h =
    let first = first_those (is_among ms) vs f h in
    equal_tests _ _
    (λ e.
    let o = one_has (another_named ms f) vs e in
    let p = parts (is_among ms o.one) (nat_eq o.one f) o.passes in
    two_differ (filter (is_among vs) ms) o.one f (those_among (is_among vs) ms o.one p.0 o.among) (those_among (is_among vs) ms f first.1 first.0) p.1)
    (λ e.
    let o = differ_two (filter (is_among vs) ms) e in
    one-of-two vs ms f o.one o.another (nat_eq o.one f) refl (among_those (is_among vs) ms o.one o.among) (among_those (is_among vs) ms o.another o.among_too) o.apart)

pub ruleset two = (two_none, two_some)
