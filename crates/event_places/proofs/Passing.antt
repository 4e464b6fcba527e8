-- Where a state passes at a call or a return, the callee's object is of no variable of a block, and the caller's, if it is of one, of one that an
-- actual has.
use Rattle.std.proofs.Common.{◌≡◌, ℕ, List, [], ◌∷◌, Bool, true, false, cond, Option, None, Some, refl, sym, ap, subst, ◌∙◌}
use Rattle.std.proofs.lemmas.Bool.{true≢false}
use Rattle.c_objects.specs.Facts.{Facts}
use Rattle.c_objects.specs.Objects.{Object, path, if_object, same_var, is_static_var, are_static, is_static}
use Rattle.c_objects.specs.Paths.{rebase}
use Rattle.c_objects.specs.Replaced.{replaced}
use Rattle.c_objects.proofs.Plain.{object-if}
use Rattle.c_objects.proofs.Vars.{same_var-true}
use Rattle.c_tree.specs.Node.{Node}
use Rattle.hole_matching.specs.Callouts.{is_local}
use Rattle.hole_matching.proofs.Heads.{and-left}
use Rattle.path_model.specs.CheckerModel.Calls.{behind_first, passed, into, if_static, reaching, reached, out, first_actual}
use Rattle.path_model.specs.CheckerModel.Happenings.{Site}
use Rattle.path_model.proofs.CheckerModel.Sources.{given, tested}
use Rattle.type_rules.specs.Options.{or_else, ◌>?◌}
use Rattle.type_rules.specs.Vars.{CVar, Extern, FileStatic, LocalStatic, Param, Local, Result, Called}
use Rattle.event_places.proofs.Bases.{rebase-base, replaced-base}
use Rattle.path_model.proofs.CheckerPrograms.Formals.{AreOther}
use Rattle.event_places.proofs.Objects.{IsOfName, AreNamed, its-name}

-- static storage is that of no variable of a block
static-other : (v : CVar) → is_static_var v ≡ true → is_local v ≡ false
static-other (Extern n) h = refl
static-other (FileStatic f n) h = refl
static-other (LocalStatic f t n) h = refl
static-other (Param f t n) h = refl
static-other (Local f t n) h = cc
static-other Result h = refl
static-other (Called f t n) h = refl

-- the object is the same in its place
if-object-is : (depth : ℕ) (o q : Object) → if_object depth o ≡ Some q → q ≡ o
if-object-is depth o q h = sym (object-if depth o q h).0

module _ (Q : Node → Type 0) (u : Facts) where
  -- a state passes between these objects
  pub record Passes (inner outer : Object) : Type 0 where
    pub callee : is_local inner.base ≡ false
    pub caller : is_local outer.base ≡ true → IsOfName Q u outer.base

  -- a global object passes its own state
  static-passes : (a : Object) → is_static_var a.base ≡ true → Passes a a
  static-passes a h = let other = static-other a.base h in record { callee = other; caller = λ i. absurd (true≢false (sym i ∙ other)) }

  -- one that a formal reaches, and one of the variable of an actual
  formal-passes : (x : CVar) (inner outer actual : Object) → is_local x ≡ false → inner.base ≡ x → outer.base ≡ actual.base → IsOfName Q u actual.base → Passes inner outer
  formal-passes x inner outer actual other i o named = record { callee = ap is_local i ∙ other; caller = λ l. subst (IsOfName Q u) (sym o) named }

  first-named : (actuals : List (Option Object)) (a : Object) → AreNamed Q u actuals → first_actual actuals ≡ Some a → IsOfName Q u a.base
  first-named [] a h e = cc
  first-named (o ∷ os) a h e = its-name Q u o a h.0 e

  behind-named : (actuals : List (Option Object)) → AreNamed Q u actuals → AreNamed Q u (behind_first actuals)
  behind-named [] h = h
  behind-named (o ∷ os) h = h.1

  -- AT THE ENTRY
  passed-named : (depth : ℕ) (xs : List (Option CVar)) (actuals : List (Option Object)) (a o : Object) → AreOther xs → AreNamed Q u actuals → passed depth xs actuals a ≡ Some o → Passes a o
  passed-named depth [] actuals a o other named h =
      let t = tested (is_static_var a.base) (Some a) o h in
      let s : a ≡ o = let same = t.1 in cc in
      subst (Passes a) s (static-passes a t.0)
  passed-named depth (None ∷ xs) actuals a o other named h = passed-named depth xs (behind_first actuals) a o other.1 (behind-named actuals named) h
  passed-named depth (Some x ∷ xs) actuals a o other named h = by (passed-named depth xs (behind_first actuals) a o other.1 (behind-named actuals named)) (same_var a.base x) refl h
    where
      by : (passed depth xs (behind_first actuals) a ≡ Some o → Passes a o) → (b : Bool) → same_var a.base x ≡ b
          → cond b (first_actual actuals >? λ q. rebase depth a (path x []) q) (passed depth xs (behind_first actuals) a) ≡ Some o → Passes a o
      by later true e k =
          let g = given (first_actual actuals) (λ q. rebase depth a (path x []) q) o k in
          let same = rebase-base depth a (path x []) g.0 o g.2 in
          formal-passes x a o g.0 other.0 (same_var-true a.base x e) same.0 (first-named actuals g.0 named g.1)
      by later false e k = later k

  pub into-named : (depth : ℕ) (s : Site) (a o : Object) → AreOther s.formals → AreNamed Q u s.actuals → into depth s a ≡ Some o → Passes a o
  into-named depth s a o other named h =
      let g = given (if_object depth a) (λ q. cond (are_static q.selectors) (passed depth s.formals s.actuals q) None) o h in
      let t = (tested (are_static g.0.selectors) (passed depth s.formals s.actuals g.0) o g.2).1 in
      subst (λ (z : Object). Passes z o) (if-object-is depth a g.0 g.1) (passed-named depth s.formals s.actuals g.0 o other named t)

  -- AT THE RETURN
  reaching-bases : (depth : ℕ) (x : CVar) (a o c : Object) → reaching depth x a o ≡ Some c → (c.base ≡ x) × (o.base ≡ a.base)
  reaching-bases depth x a o c h =
      let static = given (if_object depth o >? replaced depth (path x []) a) if_static c h in
      let first = given (if_object depth o) (replaced depth (path x []) a) static.0 static.1 in
      let t = (tested (are_static static.0.selectors) (Some static.0) c static.2).1 in
      let same : static.0 ≡ c = cc in
      let r = replaced-base depth (path x []) a first.0 static.0 first.2 in (
        ap (λ (z : Object). z.base) (sym same) ∙ r.0,
        ap (λ (z : Object). z.base) (sym (if-object-is depth o first.0 first.1)) ∙ sym r.1,
      )

  reached-named : (depth : ℕ) (xs : List (Option CVar)) (actuals : List (Option Object)) (o a : Object) → AreOther xs → AreNamed Q u actuals → reached depth xs actuals o ≡ Some a → Passes a o
  reached-named depth [] actuals o a other named h = cc
  reached-named depth (None ∷ xs) actuals o a other named h = reached-named depth xs (behind_first actuals) o a other.1 (behind-named actuals named) h
  reached-named depth (Some x ∷ xs) actuals o a other named h =
      by (reached-named depth xs (behind_first actuals) o a other.1 (behind-named actuals named)) (first_actual actuals >? λ q. reaching depth x q o) refl h
    where
      by : (reached depth xs (behind_first actuals) o ≡ Some a → Passes a o) → (k : Option Object) → (first_actual actuals >? λ q. reaching depth x q o) ≡ k → or_else k (reached depth xs (behind_first actuals) o) ≡ Some a → Passes a o
      by later None e k = later k
      by later (Some c) e k =
          let g = given (first_actual actuals) (λ q. reaching depth x q o) c e in
          let s : c ≡ a = cc in
          let same = reaching-bases depth x g.0 o a (g.2 ∙ ap Some s) in
          formal-passes x a o g.0 other.0 same.0 same.1 (first-named actuals g.0 named g.1)

  pub out-named : (depth : ℕ) (s : Site) (o a : Object) → AreOther s.formals → AreNamed Q u s.actuals → out depth s o ≡ Some a → Passes a o
  out-named depth s o a other named h = by (reached depth s.formals s.actuals o) refl h
    where
      by : (k : Option Object) → reached depth s.formals s.actuals o ≡ k → or_else k (cond (is_static o) (Some o) None) ≡ Some a → Passes a o
      by None e k =
          let t = tested (is_static o) (Some o) a k in
          let same : o ≡ a = let x = t.1 in cc in
          subst (λ (z : Object). Passes z o) same (static-passes o (and-left (is_static_var o.base) (are_static o.selectors) t.0))
      by (Some c) e k = let same : c ≡ a = cc in reached-named depth s.formals s.actuals o a other named (e ∙ ap Some same)
