-- Options that hold something, and tests that hold.
use Rattle.std.proofs.Common.{◌≡◌, ℕ, ◌+◌, ◌≤◌, Bool, true, false, cond, ◌&&◌, ◌||◌, nat_le, List, Option, None, Some, ◌⊎◌, inl, inr, ap, refl, arith}
use Rattle.c_tree.specs.Symbol.{Symbol}
use Rattle.c_tree.specs.Syntax.{Syntax}
use Rattle.c_tree.specs.Height.{height_of}
use Rattle.c_grammar.specs.Found.{◌>>=◌, if_there, made}

pub bound : {A B : Type 0} (o : Option A) (f : A → Option B) (y : B) → (o >>= f) ≡ Some y → (x : A) × (o ≡ Some x) × (f x ≡ Some y)
bound None f y h = cc
bound (Some x) f y h = (x, refl, h)

pub chosen : {A B : Type 0} (o : Option A) (y : B) (f : A → B) (z : B) → if_there o y f ≡ z → ((o ≡ None) × (y ≡ z)) ⊎ ((x : A) × (o ≡ Some x) × (f x ≡ z))
chosen None y f z h = inl (refl, h)
chosen (Some x) y f z h = inr (x, refl, h)

pub unless : {A : Type 0} (b : Bool) (o : Option A) (y : A) → cond b None o ≡ Some y → (b ≡ false) × (o ≡ Some y)
unless true o y h = cc
unless false o y h = (refl, h)

pub when : {A : Type 0} (b : Bool) (o : Option A) (y : A) → cond b o None ≡ Some y → (b ≡ true) × (o ≡ Some y)
when true o y h = (refl, h)
when false o y h = cc

pub which : {A : Type 0} (b : Bool) (x y z : A) → cond b x y ≡ z → ((b ≡ true) × (x ≡ z)) ⊎ ((b ≡ false) × (y ≡ z))
which true x y z h = inl (refl, h)
which false x y z h = inr (refl, h)

pub same : {A : Type 0} (x y : A) → Some x ≡ Some y → x ≡ y
same x y h = cc

-- two pairs are equal by their parts
pub parts : {A B : Type 0} (x y : A × B) → Some x ≡ Some y → (x.0 ≡ y.0) × (x.1 ≡ y.1)
parts x y h = let e : x ≡ y = same x y h in (ap (λ p. p.0) e, ap (λ p. p.1) e)

pub three_parts : {A B C : Type 0} (x y : A × B × C) → Some x ≡ Some y → (x.0 ≡ y.0) × (x.1 ≡ y.1) × (x.2 ≡ y.2)
three_parts x y h = let e : x ≡ y = same x y h in (ap (λ p. p.0) e, ap (λ p. p.1) e, ap (λ p. p.2) e)

pub made_some : (m : ℕ) (e x : Syntax) (ts r : List Symbol) → made m e ts ≡ Some (x, r) → (height_of e ≤ m) × (e ≡ x) × (ts ≡ r)
made_some m e x ts r h =
    let k = when (nat_le (height_of e) m) (Some (e, ts)) (x, r) h in
    let p = parts (e, ts) (x, r) k.1 in
    (grind (arith, k.0), p.0, p.1)

pub made_low : (m : ℕ) (e : Syntax) (ts : List Symbol) → height_of e ≤ m → made m e ts ≡ Some (e, ts)
made_low m e ts h = let b : nat_le (height_of e) m ≡ true = grind arith in ap (λ b. cond b (Some (e, ts)) None) b

pub at_most : (a b : ℕ) → nat_le a b ≡ true → a ≤ b
at_most a b h = grind (arith, h)

pub above : (a b : ℕ) → nat_le a b ≡ false → b + 1 ≤ a
above a b h = grind (arith, h)

pub low : (a b : ℕ) → a ≤ b → nat_le a b ≡ true
low a b h = grind arith

pub both : (a b : Bool) → (a && b) ≡ true → (a ≡ true) × (b ≡ true)
both true b h = (refl, h)
both false b h = cc

pub neither : (a b : Bool) → (a || b) ≡ false → (a ≡ false) × (b ≡ false)
neither true b h = cc
neither false b h = (refl, h)

pub either : (a b : Bool) → (a || b) ≡ true → (a ≡ true) ⊎ ((a ≡ false) × (b ≡ true))
either true b h = inl refl
either false b h = inr (refl, h)

pub or_true : (a b : Bool) → b ≡ true → (a || b) ≡ true
or_true true b h = refl
or_true false b h = h
