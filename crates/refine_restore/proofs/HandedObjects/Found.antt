-- Each object that takes a state is a candidate, so the takers are exactly those.
use Rattle.std.proofs.Common.{◌≡◌, inl, inr, ℕ, List, [], ◌∷◌, Bool, true, false, Option, None, Some, refl, ◌∙◌, sym, ap, subst, cond, Result, Ok, Err, IfOk}
use Rattle.c_objects.specs.Objects.{Object, IsObject, if_object, path, same_var, is_static_var, is_static, are_static}
use Rattle.c_objects.specs.Paths.{rebase}
use Rattle.c_objects.specs.Replaced.{replaced}
use Rattle.c_objects.proofs.Plain.{object-if}
use Rattle.c_objects.proofs.Replacing.{becomes-replaced}
use Rattle.flow_graph.specs.CPaths.Membership.{Among}
use Rattle.type_rules.specs.Options.{◌>?◌, or_else}
use Rattle.type_rules.specs.Vars.{CVar}
use Rattle.path_model.specs.CheckerModel.Calls.{AreObjects, behind_first, passed, into, reaching, reached, out, first_actual}
use Rattle.path_model.specs.CheckerModel.Happenings.{Site}
use Rattle.path_model.proofs.CheckerModel.Reaching.{reaches}
use Rattle.path_model.proofs.CheckerModel.Sources.{given, tested, first-object, behind-are}
use Rattle.refine_restore.specs.HandedObjects.Handed.{AreEntered, AreHanded}
use Rattle.refine_restore.specs.Ways.Takers.{origin, is_this, is_taker, candidate, candidates, takers}
use Rattle.refine_restore.specs.declared.handed_objects.ends.End.{End}
use Rattle.refine_restore.specs.declared.handed_objects.ends.End.TheVariants as end
use Rattle.refine_restore.proofs.HandedObjects.Gathering.{none-kept, gathered-kept, gathered-new}
use Rattle.objects.specs.Equality.{same_object, same_object-true, same_object-refl}

-- ---- what the test says

this-is : (o : Object) (q : Option Object) → is_this o q ≡ true → q ≡ Some o
this-is o None h = cc
this-is o (Some q) h = ap Some (same_object-true q o h)

is-this : (o : Object) (q : Option Object) → q ≡ Some o → is_this o q ≡ true
is-this o q h = ap (is_this o) h ∙ same_object-refl o

-- ---- at the entry

entry-found : (depth : ℕ) (o c : Object) (is : IsObject depth c) (xs : List (Option CVar)) (actuals : List (Option Object)) → passed depth xs actuals c ≡ Some o → Among (Some c) (Some o ∷ candidates end.Entry depth o xs actuals)
entry-found depth o c is [] actuals h = inl (tested (is_static_var c.base) (Some c) o h).1
entry-found depth o c is (None ∷ xs) actuals h = later (entry-found depth o c is xs (behind_first actuals) h)
  where
    later : Among (Some c) (Some o ∷ candidates end.Entry depth o xs (behind_first actuals)) → Among (Some c) (Some o ∷ candidates end.Entry depth o (None ∷ xs) actuals)
    later (inl k) = inl k
    later (inr k) = inr (inr k)
entry-found depth o c is (Some x ∷ xs) actuals h = by (entry-found depth o c is xs (behind_first actuals)) (same_var c.base x) h
  where
    later : Among (Some c) (Some o ∷ candidates end.Entry depth o xs (behind_first actuals)) → Among (Some c) (Some o ∷ candidates end.Entry depth o (Some x ∷ xs) actuals)
    later (inl k) = inl k
    later (inr k) = inr (inr k)

    by : (passed depth xs (behind_first actuals) c ≡ Some o → Among (Some c) (Some o ∷ candidates end.Entry depth o xs (behind_first actuals)))
        → (b : Bool) → cond b (first_actual actuals >? λ a. rebase depth c (path x []) a) (passed depth xs (behind_first actuals) c) ≡ Some o → Among (Some c) (Some o ∷ candidates end.Entry depth o (Some x ∷ xs) actuals)
    by before true k =
        let g = given (first_actual actuals) (λ a. rebase depth c (path x []) a) o k in
        inr (inl (sym (ap (candidate end.Entry depth o (Some x)) g.1 ∙ becomes-replaced depth x [] g.0 o c is g.2)))
    by before false k = later (before k)

into-found : (depth : ℕ) (s : Site) (o c : Object) → into depth s c ≡ Some o → Among (Some c) (Some o ∷ candidates end.Entry depth o s.formals s.actuals)
into-found depth s o c h =
    let g = given (if_object depth c) (λ q. cond (are_static q.selectors) (passed depth s.formals s.actuals q) None) o h in
    let k = object-if depth c g.0 g.1 in
    let t = (tested (are_static g.0.selectors) (passed depth s.formals s.actuals g.0) o g.2).1 in
    let is = subst (IsObject depth) (sym k.0) k.1 in
    entry-found depth o c is s.formals s.actuals (ap (passed depth s.formals s.actuals) k.0 ∙ t)

-- ---- at the return

-- what reaches an object is what becomes it
reaching-found : (depth : ℕ) (x : CVar) (a c o : Object) → IsObject depth a → reaching depth x a o ≡ Some c → rebase depth c (path x []) a ≡ Some o
reaching-found depth x a c o ia h =
    let f = given (if_object depth o >? replaced depth (path x []) a) (λ q. cond (are_static q.selectors) (Some q) None) c h in
    let g = given (if_object depth o) (replaced depth (path x []) a) f.0 f.1 in
    let k = object-if depth o g.0 g.1 in
    ((reaches depth x a o (subst (IsObject depth) (sym k.0) k.1) c ia).0 h).2

return-found : (depth : ℕ) (c o : Object) (xs : List (Option CVar)) (actuals : List (Option Object)) → AreObjects depth actuals → reached depth xs actuals o ≡ Some c → Among (Some o) (candidates end.Return depth c xs actuals)
return-found depth c o [] actuals are h = cc
return-found depth c o (None ∷ xs) actuals are h = inr (return-found depth c o xs (behind_first actuals) (behind-are depth actuals are) h)
return-found depth c o (Some x ∷ xs) actuals are h = by (return-found depth c o xs (behind_first actuals) (behind-are depth actuals are)) (first_actual actuals >? λ a. reaching depth x a o) refl h
  where
    by : (reached depth xs (behind_first actuals) o ≡ Some c → Among (Some o) (candidates end.Return depth c xs (behind_first actuals)))
        → (q : Option Object) → (first_actual actuals >? λ a. reaching depth x a o) ≡ q → or_else q (reached depth xs (behind_first actuals) o) ≡ Some c → Among (Some o) (candidates end.Return depth c (Some x ∷ xs) actuals)
    by before None e k = inr (before k)
    by before (Some q) e k =
        let g = given (first_actual actuals) (λ a. reaching depth x a o) c (e ∙ k) in
        inl (sym (ap (candidate end.Return depth c (Some x)) g.1 ∙ reaching-found depth x g.0 c o (first-object depth actuals g.0 are g.1) g.2))

out-found : (depth : ℕ) (s : Site) (c o : Object) → AreObjects depth s.actuals → out depth s o ≡ Some c → Among (Some o) (Some c ∷ candidates end.Return depth c s.formals s.actuals)
out-found depth s c o are h = by (reached depth s.formals s.actuals o) refl h
  where
    by : (q : Option Object) → reached depth s.formals s.actuals o ≡ q → or_else q (cond (is_static o) (Some o) None) ≡ Some c → Among (Some o) (Some c ∷ candidates end.Return depth c s.formals s.actuals)
    by None e k = inl (tested (is_static o) (Some o) c k).1
    by (Some q) e k = inr (return-found depth c o s.formals s.actuals are (e ∙ k))

-- ---- THE TAKERS

takers-take : (e : End) (depth : ℕ) (s : Site) (o q : Object) → Among q (takers e depth s o) → origin e depth s q ≡ Some o
takers-take e depth s o q h =
    let test = is_taker e depth s o in
    let kept = gathered-kept test (Some o ∷ candidates e depth o s.formals s.actuals) [] (none-kept test) in
    this-is o (origin e depth s q) (kept.pass q h)

-- at the entry, of any call
pub are_entered : (depth : ℕ) (s : Site) (o : Object) → AreEntered depth s o (takers end.Entry depth s o)
are_entered depth s o =
    let test = is_taker end.Entry depth s o in
    let all = Some o ∷ candidates end.Entry depth o s.formals s.actuals in
    record {
      real = takers-take end.Entry depth s o;
      whole = λ c h. gathered-new test all [] c (is-this o (into depth s c) h) (into-found depth s o c h);
      distinct = (gathered-kept test all [] (none-kept test)).distinct;
    }

-- at the return, of a call whose actuals are objects
pub are_handed : (depth : ℕ) (s : Site) (c : Object) → AreObjects depth s.actuals → AreHanded depth s c (takers end.Return depth s c)
are_handed depth s c are =
    let test = is_taker end.Return depth s c in
    let all = Some c ∷ candidates end.Return depth c s.formals s.actuals in
    record {
      real = takers-take end.Return depth s c;
      whole = λ o h. gathered-new test all [] o (is-this c (out depth s o) h) (out-found depth s c o are h);
      distinct = (gathered-kept test all [] (none-kept test)).distinct;
    }

pub if-ok : {A E : Type 0} (P Q : A → Type 0) (r : Result A E) → ((a : A) → P a → Q a) → IfOk r P → IfOk r Q
if-ok P Q (Ok a) f h = f a h
if-ok P Q (Err e) f h = tt
