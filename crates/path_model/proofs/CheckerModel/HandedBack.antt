-- What is computed of a return is what is handed back.
use Rattle.std.proofs.Common.{arith, ◌≡◌, ◌↔◌, ◌≤◌, inl, inr, ℕ, zero, suc, List, [], ◌∷◌, slice_get, Bool, true, cond, Option, None, Some, refl, sym, ap, ◌∙◌, subst}
use Rattle.std.proofs.lemmas.Option.{none-some, same_Some}
use Rattle.c_objects.specs.Objects.{Object, IsObject, path, are_static, is_static}
use Rattle.c_objects.specs.Paths.{rebase}
use Rattle.c_objects.proofs.Plain.{rebase-object}
use Rattle.type_rules.specs.Options.{◌>?◌, or_else}
use Rattle.type_rules.specs.Vars.{CVar}
use Rattle.path_model.specs.CheckerModel.Calls.{AreObjects, behind_first, BecomesThrough, BecomesFirst, NoneBecomes, IsOwn, IsHandedBack, HandsBack, reaching, reached, out, returned, first_actual}
use Rattle.path_model.specs.CheckerModel.Happenings.{Site}
use Rattle.path_model.proofs.CheckerModel.Reaching.{reaches}
use Rattle.path_model.proofs.CheckerModel.Sources.{given, tested, first-object, behind-are, reaching-object}

-- the same of an object at any depth: what becomes one at the depth is one there
reaches-any : (depth : ℕ) (x : CVar) (a o c : Object) → IsObject depth a → (reaching depth x a o ≡ Some c) ↔ (IsObject depth c × (are_static c.selectors ≡ true) × (rebase depth c (path x []) a ≡ Some o))
reaches-any depth x a o c ia = (
  λ h. (reaches depth x a o (reaching-object depth x a o c ia h).0 c ia).0 h,
  λ b. (reaches depth x a o (rebase-object depth c (path x []) a o ia b.2) c ia).1 b,
)

-- the first of some lists, and what stands behind it
at-first : (actuals : List (Option Object)) (a : Object) → first_actual actuals ≡ Some a → slice_get actuals 0 ≡ Some (Some a)
at-first [] a h = cc
at-first (x ∷ xs) a h = ap (λ (q : Option Object). Some q) h

first-at : (actuals : List (Option Object)) (a : Object) → slice_get actuals 0 ≡ Some (Some a) → first_actual actuals ≡ Some a
first-at [] a h = cc
first-at (x ∷ xs) a h = same_Some x (Some a) h

behind-at : (actuals : List (Option Object)) (n : ℕ) → slice_get actuals (suc n) ≡ slice_get (behind_first actuals) n
behind-at [] n = refl
behind-at (x ∷ xs) n = refl

module _ (depth : ℕ) (o : Object) where
  later : (x : Option CVar) (xs : List (Option CVar)) (actuals : List (Option Object)) (n : ℕ) (d : Object)
      → BecomesThrough depth xs (behind_first actuals) n d o → BecomesThrough depth (x ∷ xs) actuals (suc n) d o
  later x xs actuals n d b = record {
    formal = b.formal;
    actual = b.actual;
    is_formal = b.is_formal;
    is_actual = behind-at actuals n ∙ b.is_actual;
    object = b.object;
    static = b.static;
    becomes = b.becomes;
  }

  earlier : (x : Option CVar) (xs : List (Option CVar)) (actuals : List (Option Object)) (n : ℕ) (d : Object)
      → BecomesThrough depth (x ∷ xs) actuals (suc n) d o → BecomesThrough depth xs (behind_first actuals) n d o
  earlier x xs actuals n d b = record {
    formal = b.formal;
    actual = b.actual;
    is_formal = b.is_formal;
    is_actual = sym (behind-at actuals n) ∙ b.is_actual;
    object = b.object;
    static = b.static;
    becomes = b.becomes;
  }

  -- through the first actual
  no-formal : (xs : List (Option CVar)) (actuals : List (Option Object)) (d : Object) → BecomesThrough depth (None ∷ xs) actuals 0 d o → ⊥
  no-formal xs actuals d b = none-some b.formal (same_Some None (Some b.formal) b.is_formal)

  through-first : (x : CVar) (xs : List (Option CVar)) (actuals : List (Option Object)) (c : Object) → AreObjects depth actuals
      → (first_actual actuals >? λ a. reaching depth x a o) ≡ Some c → BecomesThrough depth (Some x ∷ xs) actuals 0 c o
  through-first x xs actuals c are h =
      let g = given (first_actual actuals) (λ a. reaching depth x a o) c h in
      let b = (reaches-any depth x g.0 o c (first-object depth actuals g.0 are g.1)).0 g.2 in
      record { formal = x; actual = g.0; is_formal = refl; is_actual = at-first actuals g.0 g.1; object = b.0; static = b.1; becomes = b.2 }

  first-through : (x : CVar) (xs : List (Option CVar)) (actuals : List (Option Object)) (d : Object) → AreObjects depth actuals
      → BecomesThrough depth (Some x ∷ xs) actuals 0 d o → (first_actual actuals >? λ a. reaching depth x a o) ≡ Some d
  first-through x xs actuals d are b =
      let same = same_Some x b.formal (same_Some (Some x) (Some b.formal) b.is_formal) in
      let e = first-at actuals b.actual b.is_actual in
      let becomes = subst (λ (v : CVar). rebase depth d (path v []) b.actual ≡ Some o) (sym same) b.becomes in
      ap (λ (q : Option Object). q >? λ a. reaching depth x a o) e
      ∙ (reaches-any depth x b.actual o d (first-object depth actuals b.actual are e)).1 (b.object, b.static, becomes)

  -- nothing is found where none becomes it
  none-becomes : (xs : List (Option CVar)) (actuals : List (Option Object)) → AreObjects depth actuals → reached depth xs actuals o ≡ None → NoneBecomes depth xs actuals o
  none-becomes [] actuals are h n d b = none-some (Some b.formal) b.is_formal
  none-becomes (None ∷ xs) actuals are h zero d b = no-formal xs actuals d b
  none-becomes (None ∷ xs) actuals are h (suc n) d b = none-becomes xs (behind_first actuals) (behind-are depth actuals are) h n d (earlier None xs actuals n d b)
  none-becomes (Some x ∷ xs) actuals are h n d b = by (none-becomes xs (behind_first actuals) (behind-are depth actuals are)) (first_actual actuals >? λ a. reaching depth x a o) refl h n d b
    where
      by : (reached depth xs (behind_first actuals) o ≡ None → NoneBecomes depth xs (behind_first actuals) o)
          → (q : Option Object) → (first_actual actuals >? λ a. reaching depth x a o) ≡ q → or_else q (reached depth xs (behind_first actuals) o) ≡ None
          → (n : ℕ) (d : Object) → BecomesThrough depth (Some x ∷ xs) actuals n d o → ⊥
      by behind (Some c) e k n d b = none-some c (sym k)
      by behind None e k zero d b = none-some d (sym e ∙ first-through x xs actuals d are b)
      by behind None e k (suc n) d b = behind k n d (earlier (Some x) xs actuals n d b)

  -- where nothing becomes it through the first, the first behind it is the first
  first-later : (x : Option CVar) (xs : List (Option CVar)) (actuals : List (Option Object)) (c : Object)
      → ((d : Object) → BecomesThrough depth (x ∷ xs) actuals 0 d o → ⊥) → BecomesFirst depth xs (behind_first actuals) c o → BecomesFirst depth (x ∷ xs) actuals c o
  first-later x xs actuals c none f = record { position = suc f.position; through = later x xs actuals f.position c f.through; first = by }
    where
      by : (n : ℕ) (d : Object) → BecomesThrough depth (x ∷ xs) actuals n d o → suc f.position ≤ n
      by zero d b = absurd (none d b)
      by (suc n) d b = let h = f.first n d (earlier x xs actuals n d b) in omega (arith, h)

  first-earlier : (x : Option CVar) (xs : List (Option CVar)) (actuals : List (Option Object)) (c : Object) (n : ℕ) → BecomesThrough depth (x ∷ xs) actuals (suc n) c o
      → ((m : ℕ) (d : Object) → BecomesThrough depth (x ∷ xs) actuals m d o → suc n ≤ m) → BecomesFirst depth xs (behind_first actuals) c o
  first-earlier x xs actuals c n t first = record {
    position = n;
    through = earlier x xs actuals n c t;
    first = λ m d b. let h = first (suc m) d (later x xs actuals m d b) in omega (arith, h);
  }

  -- what is found becomes it first
  found-becomes : (xs : List (Option CVar)) (actuals : List (Option Object)) (c : Object) → AreObjects depth actuals → reached depth xs actuals o ≡ Some c → BecomesFirst depth xs actuals c o
  found-becomes [] actuals c are h = cc
  found-becomes (None ∷ xs) actuals c are h = first-later None xs actuals c (no-formal xs actuals) (found-becomes xs (behind_first actuals) c (behind-are depth actuals are) h)
  found-becomes (Some x ∷ xs) actuals c are h = by (found-becomes xs (behind_first actuals) c (behind-are depth actuals are)) (first_actual actuals >? λ a. reaching depth x a o) refl h
    where
      by : (reached depth xs (behind_first actuals) o ≡ Some c → BecomesFirst depth xs (behind_first actuals) c o)
          → (q : Option Object) → (first_actual actuals >? λ a. reaching depth x a o) ≡ q → or_else q (reached depth xs (behind_first actuals) o) ≡ Some c
          → BecomesFirst depth (Some x ∷ xs) actuals c o
      by behind (Some d) e k = record { position = 0; through = through-first x xs actuals c are (e ∙ k); first = λ n d b. omega arith }
      by behind None e k = first-later (Some x) xs actuals c (λ d b. none-some d (sym e ∙ first-through x xs actuals d are b)) (behind k)

  -- and what becomes it first is found
  becomes-found : (xs : List (Option CVar)) (actuals : List (Option Object)) (c : Object) → AreObjects depth actuals → BecomesFirst depth xs actuals c o → reached depth xs actuals o ≡ Some c
  becomes-found [] actuals c are f = absurd (none-some (Some f.through.formal) f.through.is_formal)
  becomes-found (None ∷ xs) actuals c are f = by (becomes-found xs (behind_first actuals) c (behind-are depth actuals are)) f.position f.through f.first
    where
      by : (BecomesFirst depth xs (behind_first actuals) c o → reached depth xs (behind_first actuals) o ≡ Some c)
          → (n : ℕ) → BecomesThrough depth (None ∷ xs) actuals n c o → ((m : ℕ) (d : Object) → BecomesThrough depth (None ∷ xs) actuals m d o → n ≤ m)
          → reached depth xs (behind_first actuals) o ≡ Some c
      by behind zero t first = absurd (no-formal xs actuals c t)
      by behind (suc n) t first = behind (first-earlier None xs actuals c n t first)
  becomes-found (Some x ∷ xs) actuals c are f =
      by (becomes-found xs (behind_first actuals) c (behind-are depth actuals are)) (first_actual actuals >? λ a. reaching depth x a o) refl f.position f.through f.first
    where
      rest : Option Object
      rest = reached depth xs (behind_first actuals) o

      by : (BecomesFirst depth xs (behind_first actuals) c o → rest ≡ Some c) → (q : Option Object) → (first_actual actuals >? λ a. reaching depth x a o) ≡ q
          → (n : ℕ) → BecomesThrough depth (Some x ∷ xs) actuals n c o → ((m : ℕ) (d : Object) → BecomesThrough depth (Some x ∷ xs) actuals m d o → n ≤ m)
          → or_else (first_actual actuals >? λ a. reaching depth x a o) rest ≡ Some c
      by behind q e zero t first = ap (λ (z : Option Object). or_else z rest) (first-through x xs actuals c are t)
      by behind None e (suc n) t first = ap (λ (z : Option Object). or_else z rest) e ∙ behind (first-earlier (Some x) xs actuals c n t first)
      by behind (Some d) e (suc n) t first = let h = first 0 d (through-first x xs actuals d are e) in absurd (omega (arith, h))

  -- WHAT A CALL HANDS BACK
  pub handed-back : (s : Site) (c : Object) → AreObjects depth s.actuals → (out depth s o ≡ Some c) ↔ IsHandedBack depth s c o
  handed-back s c are = (to (reached depth s.formals s.actuals o) refl, back)
    where
      own : Option Object
      own = cond (is_static o) (Some o) None

      to : (q : Option Object) → reached depth s.formals s.actuals o ≡ q → or_else (reached depth s.formals s.actuals o) own ≡ Some c → IsHandedBack depth s c o
      to (Some d) e k = inl (found-becomes s.formals s.actuals c are (e ∙ sym (ap (λ (z : Option Object). or_else z own) e) ∙ k))
      to None e k =
          let t = tested (is_static o) (Some o) c (sym (ap (λ (z : Option Object). or_else z own) e) ∙ k) in
          inr (record { none = none-becomes s.formals s.actuals are e; static = t.0; same = sym (same_Some o c t.1) })

      by : (q : Option Object) → reached depth s.formals s.actuals o ≡ q → IsOwn depth s.formals s.actuals c o → or_else (reached depth s.formals s.actuals o) own ≡ Some c
      by (Some d) e w = let f = found-becomes s.formals s.actuals d are e in absurd (w.none f.position d f.through)
      by None e w = ap (λ (z : Option Object). or_else z own) e ∙ ap (λ (b : Bool). cond b (Some o) None) w.static ∙ ap (λ (z : Object). Some z) (sym w.same)

      back : IsHandedBack depth s c o → or_else (reached depth s.formals s.actuals o) own ≡ Some c
      back (inl f) = ap (λ (z : Option Object). or_else z own) (becomes-found s.formals s.actuals c are f)
      back (inr w) = by (reached depth s.formals s.actuals o) refl w

-- behind the call an object has the state of what is handed back to it, or its own
pub hands-back : {State : Type 0} (depth : ℕ) (s : Site) (callee caller : Object → Option State) → AreObjects depth s.actuals
    → HandsBack depth s callee caller (λ o. returned (out depth s o) callee caller o)
hands-back depth s callee caller are = record {
  handed = λ c o h. ap (λ (q : Option Object). returned q callee caller o) ((handed-back depth o s c are).1 h);
  saved = λ o none. by o none (out depth s o) refl;
}
  where
    by : (o : Object) → ((c : Object) → IsHandedBack depth s c o → ⊥) → (q : Option Object) → out depth s o ≡ q → returned (out depth s o) callee caller o ≡ caller o
    by o none None e = ap (λ (z : Option Object). returned z callee caller o) e
    by o none (Some c) e = absurd (none c ((handed-back depth o s c are).0 e))
