-- Numbers of objects under their variables.
use Rattle.std.proofs.Common.{◌≡◌, ◌∙◌, sym, ap, refl, ℕ, suc, ◌+◌, ◌<◌, ◌≤◌, Bool, true, false, cond, not, ◌&&◌, ◌||◌, List, [], ◌∷◌, ◌++◌, length, get_or, take, Option, Some, arith, append-nil, append_assoc}
use Rattle.std.specs.Prelude.{Vec}
use Rattle.std.proofs.lemmas.List.{take_more, take_all, map-append, length-take-le}
use Rattle.c_objects.proofs.Vars.{same_var-true}
use Rattle.c_objects.specs.Objects.{Selector, Deref, Field, At, AtVar, Object, is_indexed_by, path, same_var}
use Rattle.numbered_program.specs.EventTables.ObjectIndex.{has_variable, numbers_from, one_if, stands_in}
use Rattle.least_set.specs.Indexes.{items_of}
use Rattle.objects.specs.Equality.{same_object}
use Rattle.objects.specs.Selectors.{selector_of, selectors_of}
use Rattle.objects.specs.declared.selector.Selector as code
use Rattle.type_rules.specs.Vars.{CVar}

-- ---- one more number under a key

pub pushed : {K T A : Type 0} (eq : K → K → Bool) → ((x y : K) → eq x y ≡ true → x ≡ y) → (old new : K → Option (Vec T A)) (key : K) (x : T) (w : Vec T A)
    → w.items ≡ items_of (old key) ++ x ∷ [] → ((q : K) → new q ≡ cond (eq key q) (Some w) (old q)) → (q : K) → items_of (new q) ≡ items_of (old q) ++ cond (eq key q) (x ∷ []) []
pushed eq same old new key x w d u q = by (eq key q) refl
  where
    by : (b : Bool) → eq key q ≡ b → items_of (new q) ≡ items_of (old q) ++ cond b (x ∷ []) []
    by true e = ap items_of (u q ∙ ap (λ b. cond b (Some w) (old q)) e) ∙ d ∙ ap (λ k. items_of (old k) ++ x ∷ []) (same key q e)
    by false e = ap items_of (u q ∙ ap (λ b. cond b (Some w) (old q)) e) ∙ sym (append-nil (items_of (old q)))

and_true : (a : Bool) → (a && true) ≡ a
and_true true = refl
and_true false = refl

-- a variable is the path that it is by itself
pub same_paths : (v w : CVar) → same_object (path v []) (path w []) ≡ same_var v w
same_paths v w = and_true (same_var v w)

-- ---- which numbers are put where

one_more : (a b c : Bool) (n : ℕ) → one_if (not a && b) n ++ one_if (c && not (a || b)) n ≡ one_if (not a && (b || c)) n
one_more true b true n = refl
one_more true b false n = refl
one_more false true true n = refl
one_more false true false n = refl
one_more false false true n = refl
one_more false false false n = refl

pub base_first : (a b : Bool) (n : ℕ) → one_if a n ++ one_if (not a && b) n ≡ one_if (a || b) n
base_first true true n = refl
base_first true false n = refl
base_first false true n = refl
base_first false false n = refl

or_later : (a b c : Bool) → (a || (b || c)) ≡ ((a || b) || c)
or_later true b c = refl
or_later false b c = refl

indexed_behind : (xs ys : List Selector) (v : CVar) → is_indexed_by (xs ++ ys) v ≡ (is_indexed_by xs v || is_indexed_by ys v)
indexed_behind [] ys v = refl
indexed_behind (Deref ∷ xs) ys v = indexed_behind xs ys v
indexed_behind (Field f ∷ xs) ys v = indexed_behind xs ys v
indexed_behind (At n ∷ xs) ys v = indexed_behind xs ys v
indexed_behind (AtVar w ∷ xs) ys v = ap (λ b. same_var w v || b) (indexed_behind xs ys v) ∙ or_later (same_var w v) (is_indexed_by xs v) (is_indexed_by ys v)

-- an index that stands there already is put nowhere
pub put_nowhere : (base : CVar) (before : List Selector) (index v : CVar) (n : ℕ) (old : List ℕ) → stands_in base before index ≡ true
    → old ≡ old ++ one_if (same_var index v && not (stands_in base before v)) n
put_nowhere base before index v n old h = by (same_var index v) refl
  where
    by : (b : Bool) → same_var index v ≡ b → old ≡ old ++ one_if (b && not (stands_in base before v)) n
    by false e = sym (append-nil old)
    by true e = sym (append-nil old) ∙ sym (ap (λ b. old ++ one_if (not b) n) (ap (stands_in base before) (sym (same_var-true index v e)) ∙ h))

-- and one that doesn't under itself alone
pub put_there : (base : CVar) (before : List Selector) (index v : CVar) (n : ℕ) → stands_in base before index ≡ false
    → one_if (same_var index v) n ≡ one_if (same_var index v && not (stands_in base before v)) n
put_there base before index v n h = by (same_var index v) refl
  where
    by : (b : Bool) → same_var index v ≡ b → one_if b n ≡ one_if (b && not (stands_in base before v)) n
    by false e = refl
    by true e = sym (ap (λ b. one_if (not b) n) (ap (stands_in base before) (sym (same_var-true index v e)) ∙ h))

or_false : (a : Bool) → a ≡ (a || false)
or_false true = refl
or_false false = refl

-- the index of a step
pub step_put : (base : CVar) (before : List Selector) (index v : CVar) (n : ℕ)
    → one_if (same_var index v && not (stands_in base before v)) n ≡ one_if (is_indexed_by (AtVar index ∷ []) v && not (stands_in base before v)) n
step_put base before index v n = ap (λ b. one_if (b && not (stands_in base before v)) n) (or_false (same_var index v))

-- one more step was gone through
pub steps_more : (base : CVar) (steps front : List code.Selector) (i : ℕ) (d : code.Selector) (v : CVar) (n : ℕ) (before old new : List ℕ) → i < length steps → front ≡ take i steps
    → old ≡ before ++ one_if (not (same_var base v) && is_indexed_by (selectors_of (take i steps)) v) n
    → new ≡ old ++ one_if (is_indexed_by (selector_of (get_or steps i d) ∷ []) v && not (stands_in base (selectors_of front) v)) n
    → new ≡ before ++ one_if (not (same_var base v) && is_indexed_by (selectors_of (take (i + 1) steps)) v) n
steps_more base steps front i d v n before old new h f o e =
    let xs = selectors_of (take i steps) in
    let s = selector_of (get_or steps i d) in
    let all : selectors_of (take (i + 1) steps) ≡ xs ++ s ∷ [] = ap selectors_of (take_more steps i d h) ∙ map-append selector_of (take i steps) (get_or steps i d ∷ []) in
    e ∙ ap (λ l. old ++ one_if (is_indexed_by (s ∷ []) v && not (stands_in base (selectors_of l) v)) n) f
    ∙ ap (λ z. z ++ one_if (is_indexed_by (s ∷ []) v && not (stands_in base xs v)) n) o
    ∙ append_assoc before (one_if (not (same_var base v) && is_indexed_by xs v) n) (one_if (is_indexed_by (s ∷ []) v && not (stands_in base xs v)) n)
    ∙ ap (λ z. before ++ z) (one_more (same_var base v) (is_indexed_by xs v) (is_indexed_by (s ∷ []) v) n)
    ∙ ap (λ b. before ++ one_if (not (same_var base v) && b) n) (sym (indexed_behind xs (s ∷ []) v))
    ∙ ap (λ l. before ++ one_if (not (same_var base v) && is_indexed_by l v) n) (sym all)

pub steps_none : (base v : CVar) (n : ℕ) (before : List ℕ) → before ≡ before ++ one_if (not (same_var base v) && false) n
steps_none base v n before = by (same_var base v)
  where
    by : (b : Bool) → before ≡ before ++ one_if (not b && false) n
    by true = sym (append-nil before)
    by false = sym (append-nil before)

-- all were
pub steps_all : (base : CVar) (steps : List code.Selector) (i : ℕ) (v : CVar) (n : ℕ) (before all : List ℕ) → length steps ≤ i
    → all ≡ before ++ one_if (not (same_var base v) && is_indexed_by (selectors_of (take i steps)) v) n
    → all ≡ before ++ one_if (not (same_var base v) && is_indexed_by (selectors_of steps) v) n
steps_all base steps i v n before all h a = a ∙ ap (λ l. before ++ one_if (not (same_var base v) && is_indexed_by (selectors_of l) v) n) (take_all i steps h)

-- ---- the numbers of objects

numbers_last : (test : Object → Bool) (n : ℕ) (xs : List Object) (o : Object) → numbers_from test n (xs ++ o ∷ []) ≡ numbers_from test n xs ++ one_if (test o) (n + length xs)
numbers_last test n [] o = let same : n ≡ n + 0 = omega arith in append-nil (one_if (test o) n) ∙ ap (one_if (test o)) same
numbers_last test n (x ∷ xs) o =
    let further : n + 1 + length xs ≡ n + suc (length xs) = omega arith in
    ap (λ z. one_if (test x) n ++ z) (numbers_last test (n + 1) xs o)
    ∙ sym (append_assoc (one_if (test x) n) (numbers_from test (n + 1) xs) (one_if (test o) (n + 1 + length xs)))
    ∙ ap (λ k. (one_if (test x) n ++ numbers_from test (n + 1) xs) ++ one_if (test o) k) further

-- one more object was gone through
pub objects_more : (test : Object → Bool) (xs : List Object) (i : ℕ) (d : Object) (old new : List ℕ) → i < length xs → old ≡ numbers_from test 1 (take i xs)
    → new ≡ old ++ one_if (test (get_or xs i d)) (i + 1) → new ≡ numbers_from test 1 (take (i + 1) xs)
objects_more test xs i d old new h o e =
    let count : length (take i xs) ≡ i = length-take-le i xs (omega (arith, h)) in
    let long : 1 + length (take i xs) ≡ i + 1 = omega (arith, count) in
    e ∙ ap (λ z. z ++ one_if (test (get_or xs i d)) (i + 1)) o
    ∙ ap (λ k. numbers_from test 1 (take i xs) ++ one_if (test (get_or xs i d)) k) (sym long)
    ∙ sym (numbers_last test 1 (take i xs) (get_or xs i d))
    ∙ ap (numbers_from test 1) (sym (take_more xs i d h))

pub objects_all : (test : Object → Bool) (xs : List Object) (i : ℕ) (all : List ℕ) → length xs ≤ i → all ≡ numbers_from test 1 (take i xs) → all ≡ numbers_from test 1 xs
objects_all test xs i all h a = a ∙ ap (numbers_from test 1) (take_all i xs h)

-- a number stands under the base, and then under the indices
pub both_put : (o : Object) (v : CVar) (n : ℕ) (base : CVar) (again : CVar) (steps : List Selector) (old mid new : List ℕ) → base ≡ o.base → again ≡ o.base → steps ≡ o.selectors
    → mid ≡ old ++ one_if (same_var base v) n → new ≡ mid ++ one_if (not (same_var again v) && is_indexed_by steps v) n → new ≡ old ++ one_if (has_variable v o) n
both_put o v n base again steps old mid new b a s m e =
    e ∙ ap (λ z. z ++ one_if (not (same_var again v) && is_indexed_by steps v) n) m
    ∙ ap (λ w. (old ++ one_if (same_var w v) n) ++ one_if (not (same_var again v) && is_indexed_by steps v) n) b
    ∙ ap (λ w. (old ++ one_if (same_var o.base v) n) ++ one_if (not (same_var w v) && is_indexed_by steps v) n) a
    ∙ ap (λ l. (old ++ one_if (same_var o.base v) n) ++ one_if (not (same_var o.base v) && is_indexed_by l v) n) s
    ∙ append_assoc old (one_if (same_var o.base v) n) (one_if (not (same_var o.base v) && is_indexed_by o.selectors v) n)
    ∙ ap (λ z. old ++ z) (base_first (same_var o.base v) (is_indexed_by o.selectors v) n)
