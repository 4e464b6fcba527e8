-- The variable of an object stays where steps are put behind the object, or another object is put in the place of a path.
use Rattle.std.proofs.Common.{◌≡◌, ℕ, List, [], ◌∷◌, Bool, true, false, cond, ◌||◌, ◌++◌, Some, sym, ap, ◌∙◌}
use Rattle.c_objects.specs.Objects.{Selector, Deref, Field, At, AtVar, Object, path, address_of, ends_in_star, up_to}
use Rattle.c_objects.specs.Paths.{append, addressed, has_access, joined, joined_address, rebase, rebased_address, rest}
use Rattle.c_objects.specs.Replaced.{pointed, replaced}
use Rattle.c_objects.proofs.Replacing.{kept, rest-some}
use Rattle.path_model.proofs.CheckerModel.Sources.{given, tested, untested}
use Rattle.type_rules.specs.Options.{◌>?◌}
use Rattle.type_rules.specs.Vars.{CVar}

abbrev base : Object → CVar
base o = o.base

-- objects that are one have one variable
pub same-base : (o q : Object) → o ≡ q → q.base ≡ o.base
same-base o q s = sym (ap base s)

joined-by : (a : Bool) (o q : Object) (r : List Selector) → cond a (joined_address o r) (Some (path o.base (o.selectors ++ r))) ≡ Some q → q.base ≡ o.base
joined-by false o q r h = let s : path o.base (o.selectors ++ r) ≡ q = cc in same-base (path o.base (o.selectors ++ r)) q s
joined-by true o q [] h = let s : o ≡ q = cc in same-base o q s
joined-by true o q (Deref ∷ r) h = let s : path o.base (o.selectors ++ r) ≡ q = cc in same-base (path o.base (o.selectors ++ r)) q s
joined-by true o q (Field f ∷ r) h = cc
joined-by true o q (At n ∷ r) h = cc
joined-by true o q (AtVar v ∷ r) h = cc

up_to-base : (depth : ℕ) (o q : Object) → up_to depth o ≡ Some q → q.base ≡ o.base
up_to-base depth o q h = let s : o ≡ q = (kept depth o q h).0 in same-base o q s

-- steps behind an object
pub append-base : (depth : ℕ) (o q : Object) (r : List Selector) → append depth o r ≡ Some q → q.base ≡ o.base
append-base depth o q r h =
    let g = given (joined o r) (up_to depth) q h in
    up_to-base depth g.0 q g.2 ∙ joined-by o.address o g.0 r g.1

-- its address
pub addressed-base : (o q : Object) → addressed o ≡ Some q → q.base ≡ o.base
addressed-base o q h =
    let t = (untested (o.address || ends_in_star o.selectors) (Some (address_of o.base o.selectors)) q h).1 in
    let s : address_of o.base o.selectors ≡ q = cc in
    same-base (address_of o.base o.selectors) q s

append-addressed : (depth : ℕ) (o q : Object) (r : List Selector) → (append depth o r >? addressed) ≡ Some q → q.base ≡ o.base
append-addressed depth o q r h = let g = given (append depth o r) addressed q h in addressed-base g.0 q g.2 ∙ append-base depth o g.0 r g.1

-- the path behind which an object goes on has its variable
rest-base : (o p : Object) (r : List Selector) → rest o p ≡ Some r → p.base ≡ o.base
rest-base o p r h = (rest-some o p.base p.selectors r h).0

-- another object in the place of a path
pub rebase-base : (depth : ℕ) (o p a q : Object) → rebase depth o p a ≡ Some q → (q.base ≡ a.base) × (p.base ≡ o.base)
rebase-base depth o p a q h =
    let g = given (rest o p) (λ r. cond o.address (rebased_address depth a r) (append depth a r)) q h in
    (by o.address g.0 g.2, rest-base o p g.0 g.1)
  where
    by : (b : Bool) (r : List Selector) → cond b (rebased_address depth a r) (append depth a r) ≡ Some q → q.base ≡ a.base
    by false r k = append-base depth a q r k
    by true r k = append-addressed depth a q r (tested (has_access r) (append depth a r >? addressed) q k).1

-- what comes to a path where its address was put there
pointed-base : (depth : ℕ) (l q : Object) (b : Bool) (r : List Selector) → pointed depth l b r ≡ Some q → q.base ≡ l.base
pointed-base depth l q false r h = append-base depth l q (Deref ∷ r) h
pointed-base depth l q true [] h = up_to-base depth l q h
pointed-base depth l q true (s ∷ r) h = append-addressed depth l q (Deref ∷ s ∷ r) h

-- what becomes an object where another is put in the place of a path
pub replaced-base : (depth : ℕ) (l a o q : Object) → replaced depth l a o ≡ Some q → (q.base ≡ l.base) × (a.base ≡ o.base)
replaced-base depth l a o q h = by a.address h
  where
    by : (b : Bool) → cond b (rest o (path a.base a.selectors) >? pointed depth l o.address) (rebase depth o a l) ≡ Some q → (q.base ≡ l.base) × (a.base ≡ o.base)
    by false k = rebase-base depth o a l q k
    by true k =
        let g = given (rest o (path a.base a.selectors)) (pointed depth l o.address) q k in
        (pointed-base depth l q o.address g.0 g.2, rest-base o (path a.base a.selectors) g.0 g.1)
