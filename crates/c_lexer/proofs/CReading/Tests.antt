-- Tests that are true or false, and choices by them.
use Rattle.std.proofs.Common.{◌≡◌, ℕ, suc, ◌+◌, eqb, eq-eqb, Bool, true, false, cond, ◌&&◌, ◌||◌, not, Option, None, Some, ◌⊎◌, inl, inr, refl, arith}
use Rattle.std.proofs.lemmas.Bool.{eqb-true}
use Rattle.std.proofs.lemmas.Bool.Decides.{nat_tests}
use Rattle.c_lexer.specs.CReading.Scans.{plus}

-- a test is true or false
pub cases : (b : Bool) → (b ≡ true) ⊎ (b ≡ false)
cases true = inl refl
cases false = inr refl

-- both parts of a test that is true
pub both : (a b : Bool) → (a && b) ≡ true → (a ≡ true) × (b ≡ true)
both true b h = (refl, h)
both false b h = cc

-- one of two parts
pub either : (a b : Bool) → (a || b) ≡ true → (a ≡ true) ⊎ (b ≡ true)
either true b h = inl refl
either false b h = inr h

-- neither part
pub neither : (a b : Bool) → (a || b) ≡ false → (a ≡ false) × (b ≡ false)
neither true b h = cc
neither false b h = (refl, h)

pub not_true : (b : Bool) → not b ≡ true → b ≡ false
not_true true h = cc
not_true false h = refl

-- the way that a choice took
pub chosen : {A : Type 0} (b : Bool) (x y z : A) → cond b x y ≡ z → ((b ≡ true) × (x ≡ z)) ⊎ ((b ≡ false) × (y ≡ z))
chosen true x y z h = inl (refl, h)
chosen false x y z h = inr (refl, h)

-- where the second is no answer, it was the first
pub taken : {A : Type 0} (b : Bool) (x : Option A) (z : A) → cond b x None ≡ Some z → (b ≡ true) × (x ≡ Some z)
taken true x z h = (refl, h)
taken false x z h = cc

-- where the first is no answer, it was the second
pub passed : {A : Type 0} (b : Bool) (x : Option A) (z : A) → cond b None x ≡ Some z → (b ≡ false) × (x ≡ Some z)
passed true x z h = cc
passed false x z h = (refl, h)

-- a number that is k more than one that is there
pub mapped : (k : ℕ) (o : Option ℕ) (n : ℕ) → plus k o ≡ Some n → (m : ℕ) × (o ≡ Some m) × (n ≡ m + k)
mapped k None n h = cc
mapped k (Some m) n h = (m, refl, cc)

pub some_is : {A : Type 0} (x y : A) → Some x ≡ Some y → x ≡ y
some_is x y h = cc

-- a test of equal numbers
pub same : (a b : ℕ) → eqb a b ≡ true → a ≡ b
same a b h = eqb-true a b h

pub same_true : (a b : ℕ) → a ≡ b → eqb a b ≡ true
same_true a b h = eq-eqb a b h

pub not_zero : (n : ℕ) → eqb (suc n) 0 ≡ false
not_zero n = grind (arith, nat_tests)

pub unequal : (a b : ℕ) → (a ≡ b → ⊥) → eqb a b ≡ false
unequal a b h = grind (arith, nat_tests)
