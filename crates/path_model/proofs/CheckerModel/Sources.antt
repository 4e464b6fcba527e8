-- What states come from and go to are objects.
use Rattle.std.proofs.Common.{◌≡◌, ℕ, List, [], ◌∷◌, Bool, true, false, Option, None, Some, IfSome, refl, sym, subst, cond}
use Rattle.c_objects.specs.Objects.{Selector, Object, IsObject, if_object, path, same_var, is_static_var, are_static, is_static}
use Rattle.c_objects.specs.Paths.{rebase}
use Rattle.c_objects.specs.Replaced.{replaced}
use Rattle.c_objects.proofs.Plain.{object-if, rebase-object}
use Rattle.c_objects.proofs.Replacing.{replaces}
use Rattle.type_rules.specs.Options.{◌>?◌, if_there, or_else}
use Rattle.type_rules.specs.Vars.{CVar}
use Rattle.path_model.specs.CheckerModel.Calls.{AreObjects, behind_first, passed, into, if_static, reaching, reached, out, first_actual}
use Rattle.path_model.specs.CheckerModel.Happenings.{Site}
use Rattle.path_model.specs.CheckerModel.Moves.{Move, IsMove, under, indexes, copied, source_of, source}

-- what a step after a found thing gives was given by one that was found
pub given : {A B : Type 0} (x : Option A) (f : A → Option B) (y : B) → (x >? f) ≡ Some y → (a : A) × (x ≡ Some a) × (f a ≡ Some y)
given None f y h = cc
given (Some a) f y h = (a, refl, h)

-- a test that gave something came out
pub tested : {A : Type 0} (b : Bool) (x : Option A) (y : A) → cond b x None ≡ Some y → (b ≡ true) × (x ≡ Some y)
tested true x y h = (refl, h)
tested false x y h = cc

pub untested : {A : Type 0} (b : Bool) (x : Option A) (y : A) → cond b None x ≡ Some y → (b ≡ false) × (x ≡ Some y)
untested false x y h = (refl, h)
untested true x y h = cc

-- moves
pub some-copied : (depth : ℕ) (m : Move) (a : Object) → IsMove depth m → m.from ≡ Some a → IsObject depth a
some-copied depth m a is e = by m.from e is.object
  where
    by : (x : Option Object) → x ≡ Some a → IfSome x (IsObject depth) → IsObject depth a
    by None e h = cc
    by (Some b) e h = let same : b ≡ a = cc in subst (IsObject depth) same h

copied-object : (depth : ℕ) (m : Move) (o q : Object) (r : List Selector) → IsMove depth m → copied depth m o r ≡ Some q → IsObject depth q
copied-object depth m o q r is h =
    let t = (untested (indexes m.to r) (m.from >? λ a. rebase depth o m.to a) q h).1 in
    let g = given m.from (λ a. rebase depth o m.to a) q t in
    rebase-object depth o m.to g.0 q (some-copied depth m g.0 is g.1) g.2

source_of-object : (depth : ℕ) (m : Move) (o q : Object) → IsMove depth m → IsObject depth o → source_of depth m o ≡ Some q → IsObject depth q
source_of-object depth m o q is io h = by (under m.to o) h
  where
    by : (u : Option (List Selector)) → if_there u (cond (indexes m.to o.selectors) None (Some o)) (copied depth m o) ≡ Some q → IsObject depth q
    by (Some r) k = copied-object depth m o q r is k
    by None k = let t = (untested (indexes m.to o.selectors) (Some o) q k).1 in let same : o ≡ q = cc in subst (IsObject depth) same io

pub source-object : (depth : ℕ) (m : Option Move) (o q : Object) → ((n : Move) → m ≡ Some n → IsMove depth n) → source depth m o ≡ Some q → IsObject depth o × IsObject depth q
source-object depth None o q is h = let k = object-if depth o q h in (subst (IsObject depth) (sym k.0) k.1, k.1)
source-object depth (Some m) o q is h =
    let g = given (if_object depth o) (source_of depth m) q h in
    let k = object-if depth o g.0 g.1 in
    (subst (IsObject depth) (sym k.0) k.1, source_of-object depth m g.0 q (is m refl) k.1 g.2)

-- actuals
pub first-object : (depth : ℕ) (actuals : List (Option Object)) (a : Object) → AreObjects depth actuals → first_actual actuals ≡ Some a → IsObject depth a
first-object depth [] a are h = cc
first-object depth (x ∷ actuals) a are h = are.0 a h

pub behind-are : (depth : ℕ) (actuals : List (Option Object)) → AreObjects depth actuals → AreObjects depth (behind_first actuals)
behind-are depth [] are = are
behind-are depth (x ∷ actuals) are = are.1

-- entries
passed-object : (depth : ℕ) (xs : List (Option CVar)) (actuals : List (Option Object)) (c q : Object) → AreObjects depth actuals → IsObject depth c → passed depth xs actuals c ≡ Some q → IsObject depth q
passed-object depth [] actuals c q are ic h = let t = (tested (is_static_var c.base) (Some c) q h).1 in let same : c ≡ q = cc in subst (IsObject depth) same ic
passed-object depth (None ∷ xs) actuals c q are ic h = passed-object depth xs (behind_first actuals) c q (behind-are depth actuals are) ic h
passed-object depth (Some x ∷ xs) actuals c q are ic h = by (passed-object depth xs (behind_first actuals) c q (behind-are depth actuals are) ic) (same_var c.base x) h
  where
    by : (passed depth xs (behind_first actuals) c ≡ Some q → IsObject depth q) → (b : Bool) → cond b (first_actual actuals >? λ a. rebase depth c (path x []) a) (passed depth xs (behind_first actuals) c) ≡ Some q → IsObject depth q
    by later true k = let g = given (first_actual actuals) (λ a. rebase depth c (path x []) a) q k in rebase-object depth c (path x []) g.0 q (first-object depth actuals g.0 are g.1) g.2
    by later false k = later k

pub into-object : (depth : ℕ) (s : Site) (c q : Object) → AreObjects depth s.actuals → into depth s c ≡ Some q → IsObject depth c × IsObject depth q
into-object depth s c q are h =
    let g = given (if_object depth c) (λ o. cond (are_static o.selectors) (passed depth s.formals s.actuals o) None) q h in
    let k = object-if depth c g.0 g.1 in
    let t = (tested (are_static g.0.selectors) (passed depth s.formals s.actuals g.0) q g.2).1 in
    (subst (IsObject depth) (sym k.0) k.1, passed-object depth s.formals s.actuals g.0 q are k.1 t)

-- returns
pub reaching-object : (depth : ℕ) (x : CVar) (a o c : Object) → IsObject depth a → reaching depth x a o ≡ Some c → IsObject depth o × IsObject depth c
reaching-object depth x a o c ia h =
    let static = given (if_object depth o >? replaced depth (path x []) a) if_static c h in
    let first = given (if_object depth o) (replaced depth (path x []) a) static.0 static.1 in
    let here = object-if depth o first.0 first.1 in
    let t = (tested (are_static static.0.selectors) (Some static.0) c static.2).1 in
    let same : static.0 ≡ c = cc in
    let becomes = (replaces depth (path x []) a first.0 static.0 refl ia here.1).0 first.2 in
    (subst (IsObject depth) (sym here.0) here.1, subst (IsObject depth) same becomes.0)

reached-object : (depth : ℕ) (xs : List (Option CVar)) (actuals : List (Option Object)) (o c : Object) → AreObjects depth actuals → reached depth xs actuals o ≡ Some c → IsObject depth o × IsObject depth c
reached-object depth [] actuals o c are h = cc
reached-object depth (None ∷ xs) actuals o c are h = reached-object depth xs (behind_first actuals) o c (behind-are depth actuals are) h
reached-object depth (Some x ∷ xs) actuals o c are h = by (reached-object depth xs (behind_first actuals) o c (behind-are depth actuals are)) (first_actual actuals >? λ a. reaching depth x a o) refl h
  where
    by : (reached depth xs (behind_first actuals) o ≡ Some c → IsObject depth o × IsObject depth c) → (q : Option Object) → (first_actual actuals >? λ a. reaching depth x a o) ≡ q → or_else q (reached depth xs (behind_first actuals) o) ≡ Some c → IsObject depth o × IsObject depth c
    by later None e k = later k
    by later (Some q) e k =
        let g = given (first_actual actuals) (λ a. reaching depth x a o) q e in
        let same : q ≡ c = cc in
        subst (λ z. IsObject depth o × IsObject depth z) same (reaching-object depth x g.0 o q (first-object depth actuals g.0 are g.1) g.2)

-- what is handed back comes from an object to one, unless it is a static value's own state
pub out-object : (depth : ℕ) (s : Site) (o c : Object) → AreObjects depth s.actuals → out depth s o ≡ Some c → (IsObject depth o → IsObject depth c) × (IsObject depth c → IsObject depth o)
out-object depth s o c are h = by (reached depth s.formals s.actuals o) refl h
  where
    by : (q : Option Object) → reached depth s.formals s.actuals o ≡ q → or_else q (cond (is_static o) (Some o) None) ≡ Some c → (IsObject depth o → IsObject depth c) × (IsObject depth c → IsObject depth o)
    by None e k = let t = (tested (is_static o) (Some o) c k).1 in let same : o ≡ c = cc in (λ z. subst (IsObject depth) same z, λ z. subst (IsObject depth) (sym same) z)
    by (Some q) e k = let same : q ≡ c = cc in let r = reached-object depth s.formals s.actuals o q are e in (λ z. subst (IsObject depth) same r.1, λ z. r.0)
