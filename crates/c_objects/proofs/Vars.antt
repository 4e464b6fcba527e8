-- Variables and steps that are found the same are equal.
use Rattle.std.proofs.Common.{arith, ◌≡◌, true, refl, ap}
use Rattle.c_objects.specs.Objects.{Selector, Deref, Field, At, AtVar, same_var, same_selector}
use Rattle.type_rules.specs.Vars.{CVar, Extern, FileStatic, LocalStatic, Param, Local, Result, Called}

pub same_var-true : (a b : CVar) → same_var a b ≡ true → a ≡ b
same_var-true (Extern n) (Extern m) h = grind arith
same_var-true (FileStatic f n) (FileStatic g m) h = grind arith
same_var-true (LocalStatic f t n) (LocalStatic g s m) h = grind arith
same_var-true (Param f t n) (Param g s m) h = grind arith
same_var-true (Local f t n) (Local g s m) h = grind arith
same_var-true Result Result h = refl
same_var-true (Called f t n) (Called g s m) h = grind arith
same_var-true _ _ h = cc

pub same_var-refl : (a : CVar) → same_var a a ≡ true
same_var-refl (Extern n) = grind arith
same_var-refl (FileStatic f n) = grind arith
same_var-refl (LocalStatic f t n) = grind arith
same_var-refl (Param f t n) = grind arith
same_var-refl (Local f t n) = grind arith
same_var-refl Result = refl
same_var-refl (Called f t n) = grind arith

pub same_selector-true : (a b : Selector) → same_selector a b ≡ true → a ≡ b
same_selector-true Deref Deref h = refl
same_selector-true (Field f) (Field g) h = grind arith
same_selector-true (At n) (At m) h = grind arith
same_selector-true (AtVar v) (AtVar w) h = ap AtVar (same_var-true v w h)
same_selector-true _ _ h = cc

pub same_selector-refl : (a : Selector) → same_selector a a ≡ true
same_selector-refl Deref = refl
same_selector-refl (Field f) = grind arith
same_selector-refl (At n) = grind arith
same_selector-refl (AtVar v) = same_var-refl v
