-- When two objects are found the same, and what a hasher is fed of one.
use Rattle.std.proofs.Common.{◌≡◌, ℕ, List, ◌++◌, Bool, true, false, ◌&&◌, refl, sym, ap, subst, true≢false}
use Rattle.std.specs.Prelude.{flat_map}
use Rattle.std.specs.Cmp.{IsEquivalence}
use Rattle.std.specs.Cmp.Lexicographic.{pointwise, lists_equiv}
use Rattle.std.specs.Hash.{u8, u32, u64}
use Rattle.c_objects.proofs.Vars.{same_var-true, same_var-refl, same_selector-true, same_selector-refl}
use Rattle.c_objects.specs.Objects.{Selector, Deref, Field, At, AtVar, Object, same_var, same_selector}
use Rattle.type_rules.specs.Vars.{CVar, Extern, FileStatic, LocalStatic, Param, Local, Result, Called}
use Rattle.least_set.specs.Ways.Same.{both, same_list}
use Rattle.objects.specs.Selectors.{selector_of}
use Rattle.objects.specs.declared.selector.Selector as code
use mathlib.Core.Bool.{beq}

abbrev pub same_object : Object → Object → Bool
same_object a b = beq a.address b.address && (same_var a.base b.base && pointwise same_selector a.selectors b.selectors)

-- ---- what a test is that finds equal values the same, and no others

one_answer : (r s : Bool) → (r ≡ true → s ≡ true) → (s ≡ true → r ≡ true) → r ≡ s
one_answer true s f g = sym (f refl)
one_answer false true f g = g refl
one_answer false false f g = refl

pub decided : {K : Type 0} (E : K → K → Bool) → ((x y : K) → E x y ≡ true → x ≡ y) → ((x : K) → E x x ≡ true) → IsEquivalence E
decided {K} E same itself = record {
  refl = itself;
  symm = λ x y.
      let P : K → Type 0 = λ z. E z x ≡ true in
      let Q : K → Type 0 = λ z. E z y ≡ true in
      one_answer (E x y) (E y x) (λ h. subst P (same x y h) (itself x)) (λ h. subst Q (same y x h) (itself y));
  congr = λ x y z h. ap (λ w. E w z) (same x y h);
}

pub selectors_equiv : IsEquivalence same_selector
selectors_equiv = decided same_selector same_selector-true same_selector-refl

same_flag : (a b : Bool) → beq a b ≡ true → a ≡ b
same_flag true true h = refl
same_flag true false h = absurd (true≢false (sym h))
same_flag false true h = absurd (true≢false (sym h))
same_flag false false h = refl

flag_itself : (a : Bool) → beq a a ≡ true
flag_itself true = refl
flag_itself false = refl

-- THE SAME are exactly those that are equal.
pub same_object-true : (a b : Object) → same_object a b ≡ true → a ≡ b
same_object-true a b h =
    let outer = both (beq a.address b.address) (same_var a.base b.base && pointwise same_selector a.selectors b.selectors) h in
    let inner = both (same_var a.base b.base) (pointwise same_selector a.selectors b.selectors) outer.1 in
    λ i. record {
      address = same_flag a.address b.address outer.0 i;
      base = same_var-true a.base b.base inner.0 i;
      selectors = same_list same_selector same_selector-true a.selectors b.selectors inner.1 i;
    }

all_true : (a b c : Bool) → a ≡ true → b ≡ true → c ≡ true → a && (b && c) ≡ true
all_true a b c e f g = λ i. e i && (f i && g i)

pub same_object-refl : (a : Object) → same_object a a ≡ true
same_object-refl a =
    all_true (beq a.address a.address) (same_var a.base a.base) (pointwise same_selector a.selectors a.selectors)
    (flag_itself a.address) (same_var-refl a.base) ((lists_equiv selectors_equiv).refl a.selectors)

pub objects_equiv : IsEquivalence same_object
objects_equiv = decided same_object same_object-true same_object-refl

-- ---- what a hasher is fed of: of a variable one number, which few others have, since each number costs as much as all that is hashed beside it

abbrev pub var_input : CVar → List (List ℕ)
var_input (Extern n) = u32 n
var_input (FileStatic f n) = u32 n
var_input (LocalStatic f t n) = u32 t
var_input (Param f t n) = u32 t
var_input (Local f t n) = u32 t
var_input Result = u32 0
var_input (Called f t n) = u32 t

abbrev pub selector_input : Selector → List (List ℕ)
selector_input Deref = u8 0
selector_input (Field n) = u32 n
selector_input (At n) = u64 n
selector_input (AtVar v) = var_input v

abbrev pub object_input : Object → List (List ℕ)
object_input o = var_input o.base ++ flat_map selector_input o.selectors

-- what is found the same is fed the same
pub selector-fed : (a b : code.Selector) → same_selector (selector_of a) (selector_of b) ≡ true → selector_input (selector_of a) ≡ selector_input (selector_of b)
selector-fed a b h = ap selector_input (same_selector-true (selector_of a) (selector_of b) h)

pub object-fed : (a b : Object) → same_object a b ≡ true → object_input a ≡ object_input b
object-fed a b h = ap object_input (same_object-true a b h)
