-- Slots that are filled one taking after the other are the joint binding of the takings.
use Rattle.std.proofs.Common.{arith, ◌≡◌, ℕ, zero, suc, ◌<◌, List, [], ◌∷◌, ◌++◌, length, replicate, ◌⊎◌, inl, inr, Bool, true, false, Option, None, Some, refl, ◌∙◌, sym, ap, subst, cond, nat_eq}
use Rattle.std.specs.Bool.{⊤}
use Rattle.c_objects.specs.Facts.{Facts}
use Rattle.type_rules.specs.Options.{or_else, ◌>?◌}
use Rattle.hole_matching.specs.ComparedSubjects.{compared, compared_all}
use Rattle.metal_tree.specs.MetalMachines.Limits.{most_holes}
use Rattle.hole_matching.specs.Matched.{nothing_taken, put, are_equal, bound_in, bound}
use Rattle.hole_matching.specs.Matching.{Taken, One, Many, Taking, taking, Binding, slot, first_taken, AreEqual, IsEqualTo, IsTaken, IsBinding}
use Rattle.hole_matching.specs.Pattern.{same_pattern, same_patterns}
use Rattle.hole_matching.proofs.Heads.{eq-true, eq-refl, same_pattern-true, same_pattern-refl, same_patterns-true, same_patterns-refl}

-- the slots behind these takings
abbrev pub bound_all : Facts → List Taking → Binding → Option Binding
bound_all u [] b = Some b
bound_all u (t ∷ ts) b = bound u t.hole t.taken b >? bound_all u ts

then-then : {A : Type 0} (o : Option A) (f g h : A → Option A) → ((c : A) → f c ≡ (g c >? h)) → (o >? f) ≡ ((o >? g) >? h)
then-then None f g h k = refl
then-then (Some c) f g h k = k c

pub bound_all-append : (u : Facts) (xs ys : List Taking) (b : Binding) → bound_all u (xs ++ ys) b ≡ (bound_all u xs b >? bound_all u ys)
bound_all-append u [] ys b = refl
bound_all-append u (x ∷ xs) ys b = then-then (bound u x.hole x.taken b) (bound_all u (xs ++ ys)) (bound_all u xs) (bound_all u ys) (bound_all-append u xs ys)

pub equal-true : (u : Facts) (y x : Taken) → are_equal u y x ≡ true → AreEqual u y x
equal-true u (One s) (One t) h = same_pattern-true (compared u s) (compared u t) h
equal-true u (Many ss) (Many ts) h = same_patterns-true (compared_all u ss) (compared_all u ts) h
equal-true u (One s) (Many ts) h = cc
equal-true u (Many ss) (One t) h = cc

pub true-equal : (u : Facts) (y x : Taken) → AreEqual u y x → are_equal u y x ≡ true
true-equal u (One s) (One t) h = ap (same_pattern (compared u s)) (sym h) ∙ same_pattern-refl (compared u s)
true-equal u (Many ss) (Many ts) h = ap (same_patterns (compared_all u ss)) (sym h) ∙ same_patterns-refl (compared_all u ss)
true-equal u (One s) (Many ts) h = absurd h
true-equal u (Many ss) (One t) h = absurd h

itself : (u : Facts) (x : Taken) → AreEqual u x x
itself u (One s) = refl
itself u (Many ss) = refl

-- slots

slot-put : (n m : ℕ) (x : Taken) (b : Binding) → n < length b → slot m (put n x b) ≡ cond (nat_eq n m) (Some x) (slot m b)
slot-put n m x [] h = grind arith
slot-put zero zero x (y ∷ ys) h = refl
slot-put zero (suc m) x (y ∷ ys) h = let e : nat_eq 0 (suc m) ≡ false = grind arith in sym (ap (λ c. cond c (Some x) (slot m ys)) e)
slot-put (suc n) zero x (y ∷ ys) h = let e : nat_eq (suc n) 0 ≡ false = grind arith in sym (ap (λ c. cond c (Some x) y) e)
slot-put (suc n) (suc m) x (y ∷ ys) h = slot-put n m x ys (grind arith) ∙ ap (λ c. cond c (Some x) (slot m ys)) (suc-eq n m)
  where
    suc-eq : (k l : ℕ) → nat_eq k l ≡ nat_eq (suc k) (suc l)
    suc-eq k l = grind arith

length-put : (n : ℕ) (x : Taken) (b : Binding) → length (put n x b) ≡ length b
length-put n x [] = refl
length-put zero x (y ∷ ys) = refl
length-put (suc n) x (y ∷ ys) = ap suc (length-put n x ys)

empty-slot : (k n : ℕ) → slot n (replicate k None) ≡ None
empty-slot zero n = refl
empty-slot (suc k) zero = refl
empty-slot (suc k) (suc n) = empty-slot k n

same-slots : (b c : Binding) → length b ≡ length c → ((n : ℕ) → slot n b ≡ slot n c) → b ≡ c
same-slots [] [] l h = refl
same-slots [] (y ∷ ys) l h = grind arith
same-slots (x ∷ xs) [] l h = grind arith
same-slots (x ∷ xs) (y ∷ ys) l h = ap (λ z. z ∷ xs) (h 0) ∙ ap (λ zs. y ∷ zs) (same-slots xs ys (grind arith) (λ n. h (suc n)))

-- first takings

first-of : (c : Bool) (x : Taken) (o p q : Option Taken) → o ≡ or_else p q → cond c (Some x) o ≡ or_else (cond c (Some x) p) q
first-of true x o p q h = refl
first-of false x o p q h = h

first-append : (n : ℕ) (xs ys : List Taking) → first_taken n (xs ++ ys) ≡ or_else (first_taken n xs) (first_taken n ys)
first-append n [] ys = refl
first-append n (x ∷ xs) ys = first-of (nat_eq x.hole n) x.taken (first_taken n (xs ++ ys)) (first_taken n xs) (first_taken n ys) (first-append n xs ys)

equal-on : (u : Facts) (o p : Option Taken) (x : Taken) → IsEqualTo u o x → IsEqualTo u (or_else o p) x
equal-on u None p x h = absurd h
equal-on u (Some y) p x h = h

taken-split : (t : Taking) (xs ys : List Taking) → IsTaken t (xs ++ ys) → IsTaken t xs ⊎ IsTaken t ys
taken-split t [] ys h = inr h
taken-split t (x ∷ xs) ys h = elim h [ inl e ↦ inl (inl e) | inr k ↦ onward (taken-split t xs ys k) ]
  where
    onward : IsTaken t xs ⊎ IsTaken t ys → IsTaken t (x ∷ xs) ⊎ IsTaken t ys
    onward = elim [ inl k ↦ inl (inr k) | inr k ↦ inr k ]

taken-behind : (t : Taking) (xs ys : List Taking) → IsTaken t ys → IsTaken t (xs ++ ys)
taken-behind t [] ys h = h
taken-behind t (x ∷ xs) ys h = inr (taken-behind t xs ys h)

one-more : (u : Facts) (pre : List Taking) (b c : Binding) (n : ℕ) (x : Taken)
    → IsBinding u pre b → length c ≡ most_holes
    → ((m : ℕ) → slot m c ≡ or_else (first_taken m pre) (cond (nat_eq n m) (Some x) None))
    → IsEqualTo u (or_else (first_taken n pre) (Some x)) x
    → IsBinding u (pre ++ taking n x ∷ []) c
one-more u pre b c n x h l f e = record {
  slots = l;
  first = λ m. f m ∙ sym (first-append m pre (taking n x ∷ []));
  again = λ t k. elim (taken-split t pre (taking n x ∷ []) k) [ inl old ↦ old-again t old | inr new ↦ elim new [ inl same ↦ new-again t same | inr none ↦ absurd none ] ];
}
  where
    old-again : (t : Taking) → IsTaken t pre → IsEqualTo u (first_taken t.hole (pre ++ taking n x ∷ [])) t.taken
    old-again t k = subst (λ (o : Option Taken). IsEqualTo u o t.taken) (sym (first-append t.hole pre (taking n x ∷ []))) (equal-on u (first_taken t.hole pre) (first_taken t.hole (taking n x ∷ [])) t.taken (h.again t k))

    itself-first : first_taken n (pre ++ taking n x ∷ []) ≡ or_else (first_taken n pre) (Some x)
    itself-first = first-append n pre (taking n x ∷ []) ∙ ap (λ c. or_else (first_taken n pre) (cond c (Some x) None)) (eq-refl n)

    new-again : (t : Taking) → t ≡ taking n x → IsEqualTo u (first_taken t.hole (pre ++ taking n x ∷ [])) t.taken
    new-again t k = subst (λ (z : Taking). IsEqualTo u (first_taken z.hole (pre ++ taking n x ∷ [])) z.taken) (sym k) (subst (λ (o : Option Taken). IsEqualTo u o x) (sym itself-first) e)

fill-slot : (o : Option Taken) (m n : ℕ) (x : Taken) (c : Bool) → nat_eq n m ≡ c → (first : ℕ → Option Taken) → first n ≡ None → cond c (Some x) (first m) ≡ or_else (first m) (cond c (Some x) None)
fill-slot o m n x true e first h = sym (ap (λ z. or_else z (Some x)) (ap first (sym (eq-true n m e)) ∙ h))
fill-slot o m n x false e first h = or-none (first m)
  where
    or-none : (z : Option Taken) → z ≡ or_else z None
    or-none None = refl
    or-none (Some y) = refl

-- an empty slot that is filled
filled : (u : Facts) (pre : List Taking) (b : Binding) (n : ℕ) (x : Taken) → n < most_holes → IsBinding u pre b → slot n b ≡ None → IsBinding u (pre ++ taking n x ∷ []) (put n x b)
filled u pre b n x k h e = one-more u pre b (put n x b) n x h (length-put n x b ∙ h.slots)
    (λ m. slot-put n m x b (subst (λ (l : ℕ). n < l) (sym h.slots) k)
    ∙ ap (cond (nat_eq n m) (Some x)) (h.first m)
    ∙ fill-slot None m n x (nat_eq n m) refl (λ z. first_taken z pre) (sym (h.first n) ∙ e))
    (subst (λ (o : Option Taken). IsEqualTo u (or_else o (Some x)) x) (sym (sym (h.first n) ∙ e)) (itself u x))

keep-slot : (m n : ℕ) (x y : Taken) (c : Bool) → nat_eq n m ≡ c → (first : ℕ → Option Taken) → first n ≡ Some y → first m ≡ or_else (first m) (cond c (Some x) None)
keep-slot m n x y true e first h = let s : first m ≡ Some y = ap first (sym (eq-true n m e)) ∙ h in s ∙ sym (ap (λ z. or_else z (Some x)) s)
keep-slot m n x y false e first h = or-none (first m)
  where
    or-none : (z : Option Taken) → z ≡ or_else z None
    or-none None = refl
    or-none (Some w) = refl

-- a full slot that holds what is equal
kept : (u : Facts) (pre : List Taking) (b : Binding) (n : ℕ) (x y : Taken) → IsBinding u pre b → slot n b ≡ Some y → AreEqual u y x → IsBinding u (pre ++ taking n x ∷ []) b
kept u pre b n x y h e q = one-more u pre b b n x h h.slots
    (λ m. h.first m ∙ keep-slot m n x y (nat_eq n m) refl (λ z. first_taken z pre) (sym (h.first n) ∙ e))
    (subst (λ (o : Option Taken). IsEqualTo u (or_else o (Some x)) x) (sym (sym (h.first n) ∙ e)) q)

step-in : (u : Facts) (pre : List Taking) (b c : Binding) (n : ℕ) (x : Taken) (o : Option Taken) → n < most_holes → IsBinding u pre b → slot n b ≡ o → bound_in u n x b o ≡ Some c → IsBinding u (pre ++ taking n x ∷ []) c
step-in u pre b c n x None k h e r = subst (λ (z : Binding). IsBinding u (pre ++ taking n x ∷ []) z) (some-one (put n x b) c r) (filled u pre b n x k h e)
  where
    some-one : (y z : Binding) → Some y ≡ Some z → y ≡ z
    some-one y z q = cc
step-in u pre b c n x (Some y) k h e r = by-equal (are_equal u y x) refl r
  where
    by-equal : (a : Bool) → are_equal u y x ≡ a → cond a (Some b) None ≡ Some c → IsBinding u (pre ++ taking n x ∷ []) c
    by-equal true ea q = subst (λ (z : Binding). IsBinding u (pre ++ taking n x ∷ []) z) (some-one b c q) (kept u pre b n x y h e (equal-true u y x ea))
      where
        some-one : (v z : Binding) → Some v ≡ Some z → v ≡ z
        some-one v z w = cc
    by-equal false ea q = cc

-- one taking more
pub step : (u : Facts) (pre : List Taking) (b c : Binding) (n : ℕ) (x : Taken) → n < most_holes → IsBinding u pre b → bound u n x b ≡ Some c → IsBinding u (pre ++ taking n x ∷ []) c
step u pre b c n x k h r = step-in u pre b c n x (slot n b) k h refl r

pub at-first : (u : Facts) → IsBinding u [] nothing_taken
at-first u = record { slots = refl; first = λ n. empty-slot most_holes n; again = λ t k. absurd k }

pub one-binding : (u : Facts) (ts : List Taking) (b c : Binding) → IsBinding u ts b → IsBinding u ts c → b ≡ c
one-binding u ts b c h k = same-slots b c (h.slots ∙ sym k.slots) (λ n. h.first n ∙ sym (k.first n))

row-one : (xs ys : List Taking) (t : Taking) → ((xs ++ t ∷ []) ++ ys) ≡ (xs ++ t ∷ ys)
row-one [] ys t = refl
row-one (x ∷ xs) ys t = ap (λ zs. x ∷ zs) (row-one xs ys t)

row-none : (xs : List Taking) → (xs ++ []) ≡ xs
row-none [] = refl
row-none (x ∷ xs) = ap (λ zs. x ∷ zs) (row-none xs)

-- the holes of these takings have slots
abbrev pub HaveSlots : List Taking → Type 0
HaveSlots [] = ⊤
HaveSlots (t ∷ ts) = (t.hole < most_holes) × HaveSlots ts

pub slots-append : (xs ys : List Taking) → HaveSlots xs → HaveSlots ys → HaveSlots (xs ++ ys)
slots-append [] ys h k = k
slots-append (x ∷ xs) ys h k = (h.0, slots-append xs ys h.1 k)

some-one : {A : Type 0} (x y : A) → Some x ≡ Some y → x ≡ y
some-one x y h = cc

then-some : {A B : Type 0} (o : Option A) (f : A → Option B) (y : B) → (o >? f) ≡ Some y → (x : A) × (o ≡ Some x) × (f x ≡ Some y)
then-some None f y h = cc
then-some (Some x) f y h = (x, refl, h)

-- the slots behind takings are their joint binding
pub all-bound : (u : Facts) (pre post : List Taking) (b c : Binding) → HaveSlots post → IsBinding u pre b → bound_all u post b ≡ Some c → IsBinding u (pre ++ post) c
all-bound u pre [] b c k h r = subst (λ (z : List Taking). IsBinding u z c) (sym (row-none pre)) (subst (λ (z : Binding). IsBinding u pre z) (some-one b c r) h)
all-bound u pre (t ∷ post) b c k h r =
    let s = then-some (bound u t.hole t.taken b) (bound_all u post) c r in
    subst (λ (z : List Taking). IsBinding u z c) (row-one pre post t)
    (all-bound u (pre ++ t ∷ []) post s.0 c k.1 (step u pre b s.0 t.hole t.taken k.0 h s.1) s.2)

-- what a taking does to slots where a joint binding exists
bound-there : (u : Facts) (pre post : List Taking) (b d : Binding) (n : ℕ) (x : Taken) (o : Option Taken) → IsBinding u pre b → IsBinding u (pre ++ taking n x ∷ post) d → slot n b ≡ o → (c : Binding) × (bound_in u n x b o ≡ Some c)
bound-there u pre post b d n x None h k e = (put n x b, refl)
bound-there u pre post b d n x (Some y) h k e = (b, ap (λ z. cond z (Some b) None) (true-equal u y x there))
  where
    found : first_taken n (pre ++ taking n x ∷ post) ≡ Some y
    found = first-append n pre (taking n x ∷ post) ∙ ap (λ z. or_else z (first_taken n (taking n x ∷ post))) (sym (h.first n) ∙ e)

    there : AreEqual u y x
    there = subst (λ (z : Option Taken). IsEqualTo u z x) found (k.again (taking n x) (taken-behind (taking n x) pre (taking n x ∷ post) (inl refl)))

-- and the joint binding is the slots behind them
pub bound-all : (u : Facts) (pre post : List Taking) (b d : Binding) → HaveSlots post → IsBinding u pre b → IsBinding u (pre ++ post) d → bound_all u post b ≡ Some d
bound-all u pre [] b d k h j = ap Some (one-binding u pre b d h (subst (λ (z : List Taking). IsBinding u z d) (row-none pre) j))
bound-all u pre (t ∷ post) b d k h j =
    let s = bound-there u pre post b d t.hole t.taken (slot t.hole b) h j refl in
    ap (λ z. z >? bound_all u post) s.1
    ∙ bound-all u (pre ++ t ∷ []) post s.0 d k.1 (step u pre b s.0 t.hole t.taken k.0 h s.1) (subst (λ (z : List Taking). IsBinding u z d) (sym (row-one pre post t)) j)
