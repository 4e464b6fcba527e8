-- Small facts on options, facts and trails, which hold by their constructors alone.
use Rattle.std.proofs.Common.{◌≡◌, Option, Some, None, ◌⊎◌, inl, inr, refl, sym, ◌∙◌, ap, option_and_then}
use Rattle.path_theory.specs.Trails.{Trail, Start, More}
use Rattle.path_theory.specs.Origins.{handed}
use Rattle.path_theory.specs.Facts.{FactOf, NoObject, HasObject, Gives, GivesNone, GivesState, fact_of, IfNoObject}

pub some_is : {O : Type 0} (a b : O) → Some a ≡ Some b → a ≡ b
some_is a b e = cc

pub none_some : {O B : Type 0} (z : Option O) (b : O) → z ≡ None → z ≡ Some b → B
none_some z b e d = cc

pub some_some : {O : Type 0} (z : Option O) (a b : O) → z ≡ Some a → z ≡ Some b → b ≡ a
some_some z a b e d = cc

pub none_known : {S B : Type 0} (x : S) → None ≡ Some x → B
none_known x e = cc

-- two maps that agree at an object, where there is one
pub then_same : {A B : Type 0} (z : Option A) (m n : A → Option B) → ((a : A) → z ≡ Some a → m a ≡ n a)
    → option_and_then m z ≡ option_and_then n z
then_same None m n h = refl
then_same (Some a) m n h = h a refl

pub handed_same : {A B : Type 0} (z : Option A) (m n : A → Option B) (a b : Option B)
    → ((c : A) → z ≡ Some c → m c ≡ n c) → (z ≡ None → a ≡ b) → handed z m a ≡ handed z n b
handed_same None m n a b h i = i refl
handed_same (Some c) m n a b h i = h c refl

-- a known state behind a choice of object
pub then_known : {O S : Type 0} (z : Option O) (m : O → Option S) (x : S) → option_and_then m z ≡ Some x
    → (o : O) × (z ≡ Some o) × (m o ≡ Some x)
then_known None m x e = cc
then_known (Some o) m x e = (o, refl, e)

pub handed_known : {O S : Type 0} (z : Option O) (m : O → Option S) (y : Option S) (x : S) → handed z m y ≡ Some x
    → ((o : O) × (z ≡ Some o) × (m o ≡ Some x)) ⊎ (y ≡ Some x)
handed_known None m y x e = inr e
handed_known (Some o) m y x e = inl (o, refl, e)

pub no_object_object : {O S B : Type 0} (o : O) (x : Option S) → HasObject o x ≡ NoObject → B
no_object_object o x e = cc

-- the object whose fact it is
pub fact_of_some : {O S : Type 0} (z : Option O) (m : O → Option S) (o : O) (x : Option S)
    → HasObject o x ≡ fact_of z m → (z ≡ Some o) × (x ≡ m o)
fact_of_some None m o x e = cc
fact_of_some (Some a) m o x e = let d : o ≡ a = cc in (ap Some (sym d), (let v : x ≡ m a = cc in v ∙ ap m (sym d)))

pub fact_of_none : {O S : Type 0} (z : Option O) (m : O → Option S) → NoObject ≡ fact_of z m → z ≡ None
fact_of_none None m e = refl
fact_of_none (Some a) m e = cc

pub fact_of_same : {O S : Type 0} (z : Option O) (m n : O → Option S) → ((b : O) → z ≡ Some b → m b ≡ n b)
    → fact_of z m ≡ fact_of z n
fact_of_same None m n h = refl
fact_of_same (Some o) m n h = ap (HasObject o) (h o refl)

pub if_no_object : {O S : Type 0} (t : FactOf O S) {P : Type 0} → P → IfNoObject t P
if_no_object NoObject p = p
if_no_object (HasObject o x) p = tt

pub gives_fact_of : {O S : Type 0} (z : Option O) (m : O → Option S) → Gives z (fact_of z m) (option_and_then m z)
gives_fact_of None m = GivesNone
gives_fact_of (Some o) m = GivesState

pub start_more : {A B : Type 0} {l : Trail A} {a : A} → Start ≡ More l a → B
start_more d = cc

pub more_init : {A : Type 0} {l m : Trail A} {a b : A} → More l a ≡ More m b → l ≡ m
more_init d = cc
