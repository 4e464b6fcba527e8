-- Objects that are followed: which are found in a list, and which have their state from one that is.
use Rattle.std.proofs.Common.{◌≡◌, ◌∙◌, sym, ap, refl, subst, inl, inr, List, [], ◌∷◌, Bool, true, false, not, cond, ◌||◌, true≢false, Contains, Option, None, Some}
use Rattle.std.specs.Prelude.{is_none}
use Rattle.c_objects.specs.Objects.{Object}
use Rattle.flow_graph.specs.CPaths.Membership.{Among}
use Rattle.least_set.specs.Logs.{IsExactly, SomeGives}
use Rattle.masked_paths.specs.StrictFlows.Among.{if_followed, of_followed}
use Rattle.masked_paths.proofs.StrictFlows.Among.{are_strict}
use Rattle.objects.specs.Equality.{same_object, same_object-true, same_object-refl}
use Rattle.block_flows.specs.TupleFlows.Facts.{is_in}
use Rattle.block_flows.proofs.TupleFlows.Lists.{among-contains, contains-among, exactly-same}
use Rattle.least_set.proofs.Growing.{nothing}

-- ---- what is found in a list

found-among : (xs : List Object) (o : Object) → is_in xs o ≡ true → Among o xs
found-among [] o h = cc
found-among (x ∷ xs) o h = by (found-among xs o) (same_object o x) refl h
  where
    by : (is_in xs o ≡ true → Among o xs) → (b : Bool) → same_object o x ≡ b → (b || is_in xs o) ≡ true → Among o (x ∷ xs)
    by later true e k = inl (same_object-true o x e)
    by later false e k = inr (later k)

among-found : (xs : List Object) (o : Object) → Among o xs → is_in xs o ≡ true
among-found [] o h = absurd h
among-found (x ∷ xs) o (inl h) = ap (λ b. b || is_in xs o) (ap (same_object o) (sym h) ∙ same_object-refl o)
among-found (x ∷ xs) o (inr h) = by (among-found xs o h) (same_object o x)
  where
    by : is_in xs o ≡ true → (b : Bool) → (b || is_in xs o) ≡ true
    by later true = refl
    by later false = later

-- an object that is found stands there, and one that isn't doesn't
pub in-contains : (xs : List Object) (o : Object) → is_in xs o ≡ true → Contains xs o
in-contains xs o h = contains-among xs o (found-among xs o h)

pub contains-in : (xs : List Object) (o : Object) → Contains xs o → is_in xs o ≡ true
contains-in xs o m = among-found xs o (among-contains xs o m)

pub missing-in : (xs : List Object) (o : Object) (b : Bool) → b ≡ is_in xs o → b ≡ false → is_in xs o ≡ true → ⊥
missing-in xs o b e h i = true≢false (sym i ∙ sym e ∙ h)

-- ---- where the state of one comes from, among those that are followed: its own list and that of the other

abbrev pub from_in : List Object → List Object → Object → Option Object → Option Object
from_in own other a z = of_followed (is_in own a) (if_followed (is_in other) z)

module _ (own other : List Object) (a : Object) (z : Option Object) where
  pub from-some : (b : Object) → is_in own a ≡ true → is_in other b ≡ true → z ≡ Some b → from_in own other a z ≡ Some b
  from-some b i j e = ((are_strict (is_in own a) (is_in other) z).takes b).1 (i, j, e)

  pub some-from : (b : Object) → from_in own other a z ≡ Some b → (is_in own a ≡ true) × (is_in other b ≡ true) × (z ≡ Some b)
  some-from b e = ((are_strict (is_in own a) (is_in other) z).takes b).0 e

  -- it begins where it has it from none, or from one that isn't followed
  pub begins-none : z ≡ None → from_in own other a z ≡ None
  begins-none e = by (is_in own a) (if_followed (is_in other) z) (ap (if_followed (is_in other)) e)
    where
      by : (b : Bool) (w : Option Object) → w ≡ None → of_followed b w ≡ None
      by true w k = k
      by false w k = refl

  pub none-test : (b : Bool) → b ≡ true → z ≡ None → b ≡ is_none (from_in own other a z)
  none-test b h e = h ∙ sym (ap is_none (begins-none e))

  pub some-test : (b : Object) (r t : Bool) → is_in own a ≡ true → z ≡ Some b → t ≡ is_in other b → r ≡ not t → r ≡ is_none (from_in own other a z)
  some-test b r t i e f n =
      n ∙ ap not f ∙ sym (
      ap (λ w. is_none (of_followed (is_in own a) (if_followed (is_in other) w))) e
      ∙ ap (λ k. is_none (of_followed k (cond (is_in other b) (Some b) None))) i
      ∙ by (is_in other b)
      )
    where
      by : (k : Bool) → is_none (cond k (Some b) None) ≡ not k
      by true = refl
      by false = refl

  pub itself-test : (b : Object) (r : Bool) → is_in own a ≡ true → is_in other b ≡ true → z ≡ Some b → r ≡ false → r ≡ is_none (from_in own other a z)
  itself-test b r i j e h = h ∙ sym (ap is_none (from-some b i j e))

  -- and one that isn't followed has it from none
  pub unfollowed-test : (r : Bool) → is_in own a ≡ false → r ≡ true → r ≡ is_none (from_in own other a z)
  unfollowed-test r i h = h ∙ sym (ap (λ k. is_none (of_followed k (if_followed (is_in other) z))) i)

-- ---- those of a list of all that have their state from one object, as far as they are followed

module _ {B : Type 0} (F : Object → B) (S : Object → Option Object) (b : Object) (own other : List Object) where
  abbrev pub Taken : Object → B → Type 0
  Taken a u = (from_in own other a (S a) ≡ Some b) × (F a ≡ u)

  pub exactly-taken : (all : List Object) (out : List B) → is_in other b ≡ true → ((a : Object) → Among a all → S a ≡ Some b) → ((a : Object) → S a ≡ Some b → Among a all)
      → IsExactly out (SomeGives (λ a u. (is_in own a ≡ true) × (F a ≡ u)) all)
      → IsExactly out (SomeGives (λ a u. (from_in own other a (S a) ≡ Some b) × (F a ≡ u)) own)
  exactly-taken all out i real whole e = exactly-same (SomeGives (λ a u. (is_in own a ≡ true) × (F a ≡ u)) all) (SomeGives Taken own) out e
      (λ u m. (m.0, in-contains own m.0 m.2.0, (from-some own other m.0 (S m.0) b m.2.0 i (real m.0 (among-contains all m.0 m.1)), m.2.1)))
      (λ u m. let s = some-from own other m.0 (S m.0) b m.2.0 in (m.0, contains-among all m.0 (whole m.0 s.2), (s.0, m.2.1)))

  -- none where that object isn't followed
  pub none-taken : is_in other b ≡ false → IsExactly [] (SomeGives (λ a u. (from_in own other a (S a) ≡ Some b) × (F a ≡ u)) own)
  none-taken out = (
    λ u m. absurd (nothing u m),
    λ u m. let s = some-from own other m.0 (S m.0) b m.2.0 in absurd (true≢false (sym s.1 ∙ out)),
  )
