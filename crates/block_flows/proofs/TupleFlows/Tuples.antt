-- Tuples by their parts, and which states a fact gives.
use Rattle.std.proofs.Common.{◌≡◌, ℕ, true, false, ◌||◌, Option, None, Some, refl, sym, subst, ◌∙◌}
use Rattle.std.proofs.Math.Bool.{Bool-set}
use Rattle.std.proofs.Math.Path.{PathP, to_path_p}
use Rattle.std.specs.Prelude.{is_some, is_none}
use Rattle.c_objects.specs.Objects.{Object}
use Rattle.path_model.specs.CheckerModel.Choices.{State}
use Rattle.path_theory.specs.Facts.{FactOf, NoObject, HasObject, Gives, GivesNone, GivesState}
use Rattle.state_tuples.specs.declared.tuple.Tuple.{Tuple}
use Rattle.block_flows.specs.TupleFlows.Facts.{fact_of, fact_in}

-- a tuple without an object has no state
abbrev IsBare : Option Object → Option State → Type 0
IsBare o x = is_some o || is_none x ≡ true

-- the tuple of a global state and a fact
abbrev pub tuple_of : ℕ → FactOf Object State → Tuple
tuple_of g NoObject = record { global = g; object = None; state = None; bare = refl }
tuple_of g (HasObject o x) = record { global = g; object = Some o; state = x; bare = refl }

pub tuple_of-fact : (g : ℕ) (t : FactOf Object State) → fact_in (tuple_of g t) ≡ t
tuple_of-fact g NoObject = refl
tuple_of-fact g (HasObject o x) = refl

pub tuple_of-global : (g : ℕ) (t : FactOf Object State) → (tuple_of g t).global ≡ g
tuple_of-global g NoObject = refl
tuple_of-global g (HasObject o x) = refl

-- tuples are one where their parts are
pub same-parts : (t u : Tuple) → t.global ≡ u.global → t.object ≡ u.object → t.state ≡ u.state → t ≡ u
same-parts t u global object state =
    let bare : PathP (λ i. IsBare (object i) (state i)) t.bare u.bare = to_path_p (λ i. IsBare (object i) (state i)) (Bool-set _ _ _ _) in
    λ i. record { global = global i; object = object i; state = state i; bare = bare i }

no≢has : (o : Object) (x : Option State) → NoObject ≡ HasObject o x → ⊥
no≢has o x h = cc

some-object : (o p : Object) (x y : Option State) → HasObject o x ≡ HasObject p y → Some o ≡ Some p
some-object o p x y h = cc

some-state : (o p : Object) (x y : Option State) → HasObject o x ≡ HasObject p y → x ≡ y
some-state o p x y h = cc

one-object : (a b : Option Object) (x y : Option State) → fact_of a x ≡ fact_of b y → a ≡ b
one-object None None x y s = refl
one-object None (Some b) x y s = absurd (no≢has b y s)
one-object (Some a) None x y s = absurd (no≢has a x (sym s))
one-object (Some a) (Some b) x y s = some-object a b x y s

no-state : (x : Option State) → is_none x ≡ true → x ≡ None
no-state None h = refl
no-state (Some x) h = absurd (false≢true h)
  where
    false≢true : false ≡ true → ⊥
    false≢true e = cc

one-state : (a b : Option Object) (x y : Option State) → IsBare a x → IsBare b y → fact_of a x ≡ fact_of b y → x ≡ y
one-state None None x y p q s = no-state x p ∙ sym (no-state y q)
one-state None (Some b) x y p q s = absurd (no≢has b y s)
one-state (Some a) None x y p q s = absurd (no≢has a x (sym s))
one-state (Some a) (Some b) x y p q s = some-state a b x y s

-- or where they have one global state and one fact
pub same-tuple : (t u : Tuple) → t.global ≡ u.global → fact_in t ≡ fact_in u → t ≡ u
same-tuple t u e s = same-parts t u e (one-object t.object u.object t.state u.state s) (one-state t.object u.object t.state u.state t.bare u.bare s)

-- what a fact of these parts gives: the state of its object, and none where it has none
pub given-object : (q a : Option Object) (s x : Option State) → Gives q (fact_of a s) x → q ≡ a
given-object _ None _ _ GivesNone = refl
given-object _ (Some o) s _ GivesState = refl

pub given-state : (q a : Option Object) (s x : Option State) → IsBare a s → Gives q (fact_of a s) x → x ≡ s
given-state _ None s _ b GivesNone = sym (no-state s b)
given-state _ (Some o) s _ b GivesState = refl

pub gives : (q a : Option Object) (s : Option State) → IsBare a s → q ≡ a → Gives q (fact_of a s) s
gives q a s b e = subst (λ z. Gives z (fact_of a s) s) (sym e) (by a b)
  where
    by : (a : Option Object) → IsBare a s → Gives a (fact_of a s) s
    by None b = subst (Gives None NoObject) (sym (no-state s b)) GivesNone
    by (Some o) b = GivesState
