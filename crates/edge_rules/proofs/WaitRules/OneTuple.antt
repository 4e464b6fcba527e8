-- Who waits, and where he goes on, because of one tuple.
use Rattle.std.proofs.Common.{◌≡◌, inl, inr, ℕ, ◌++◌, List, [], ◌∷◌, map, Option, None, Some, sym, ap, subst, ◌∙◌, Contains, Bool, true, false, not, true≢false, refl}
use Rattle.std.proofs.lemmas.List.Elements.{Contains-append_left, Contains-push, Contains-push_cases}
use Rattle.c_objects.specs.Objects.{Object, is_static}
use Rattle.type_rules.specs.Options.{or_else}
use Rattle.std.specs.Prelude.{cond, is_some}
use Rattle.masked_paths.specs.StrictFlows.Among.{if_followed, of_followed}
use Rattle.path_model.specs.CheckerModel.Calls.{reached}
use Rattle.path_model.specs.CheckerModel.Choices.{State}
use Rattle.path_model.specs.CheckerModel.Happenings.{Function, Site}
use Rattle.path_model.specs.CheckerModel.Reports.{Checker}
use Rattle.path_edges.specs.EdgeSteps.Steps.{put_back, wait_for, woken_edge}
use Rattle.path_edges.proofs.EdgeSteps.Lists.{contains-map, map-contains}
use Rattle.least_set.specs.declared.two_premises.Wait.{Wait}
use Rattle.least_set.specs.Logs.{IsExactly, SomeGives}
use Rattle.path_edges.specs.declared.edges.Context.{Context}
use Rattle.path_edges.specs.declared.edges.Edge.{Edge}
use Rattle.path_edges.specs.declared.edges.Waiter.{Waiter}
use Rattle.refine_restore.specs.declared.site.Site as code
use Rattle.refine_restore.specs.Sites.{site_of}
use Rattle.state_tuples.specs.declared.tuple.Tuple.{Tuple}
use Rattle.block_flows.specs.TupleFlows.Facts.{is_in}
use Rattle.block_flows.specs.TupleFlows.Passed.{IsSite, IsEntered, IsReturned}
use Rattle.edge_rules.specs.WaitRules.Handing.{HandBackAlike}
use Rattle.edge_rules.specs.WaitRules.Waiters.{IsSaved, IsWaiting, ForEntered, WithSaved, GoesOn, WithHanded, WithPutBack, wait_with}

-- what is made of each value of a list
pub exactly-mapped : {A B : Type 0} (f : A → B) (P : A → Type 0) (xs : List A) → IsExactly xs P → IsExactly (map f xs) (λ b. (a : A) × P a × (f a ≡ b))
exactly-mapped f P xs x = (
  λ b m. let a = map-contains f xs b m in (a.0, x.0 a.0 a.1, a.2),
  λ b h. subst (λ z. Contains (map f xs) z) h.2 (contains-map f xs h.0 (x.1 h.0 h.1)),
)

-- what a call hands back, by what it passes
pub alike : (depth : ℕ) (site : code.Site) (s : Site) → IsSite depth site s → HandBackAlike depth (site_of depth site) s
alike depth site s is o = ap (λ xs. or_else (reached depth xs (site_of depth site).actuals o) (cond (is_static o) (Some o) None)) (sym is.formals)
    ∙ ap (λ xs. or_else (reached depth s.formals xs o) (cond (is_static o) (Some o) None)) (sym is.actuals)

-- a call without formals hands back as any other without
pub without-formals : (depth : ℕ) (s r : Site) → s.formals ≡ [] → r.formals ≡ [] → HandBackAlike depth s r
without-formals depth s r f g o = ap (λ xs. or_else (reached depth xs s.actuals o) (cond (is_static o) (Some o) None)) f
    ∙ ap (λ xs. or_else (reached depth xs r.actuals o) (cond (is_static o) (Some o) None)) (sym g)

-- one object is saved at most
one-object : (o p : Object) → Some o ≡ Some p → o ≡ p
one-object o p e = cc

-- what is saved, by what a call hands back
saved-alike : (depth : ℕ) (s r : Site) (here there : List Object) (t : Tuple) (o : Object) → HandBackAlike depth s r → IsSaved depth s here there t o → IsSaved depth r here there t o
saved-alike depth s r here there t o same x = record { has = x.has; kept = sym (ap (λ z. of_followed (is_in here o) (if_followed (is_in there) z)) (same o)) ∙ x.kept }

-- an object is saved by what the call passes, and at the site that it is
module _ (c : Checker) (depth : ℕ) (site : code.Site) (s : Site) (here there : List Object) (t : Tuple) (o : Object) (deep : c.depth ≡ depth) (is : IsSite depth site s) where
  pub saved-at : IsSaved depth (site_of depth site) here there t o → IsSaved c.depth s here there t o
  saved-at x = subst (λ n. IsSaved n s here there t o) (sym deep) (saved-alike depth (site_of depth site) s here there t o (alike depth site s is) x)

  pub saved-of : IsSaved c.depth s here there t o → IsSaved depth (site_of depth site) here there t o
  saved-of x = saved-alike depth s (site_of depth site) here there t o (λ p. sym (alike depth site s is p)) (subst (λ n. IsSaved n s here there t o) deep x)

module _ (c : Checker) (s : Site) (callee : Function) (here there : List Object) (number behind : ℕ) (e : Edge) (t : Tuple) (out : List (Wait Context Waiter)) where
  abbrev Entered : Wait Context Waiter → Type 0
  Entered w = (u : Tuple) × IsEntered c s callee here there t u × (wait_for e number behind u ≡ w)

  abbrev Waiting : Wait Context Waiter → Type 0
  Waiting w = IsWaiting c s callee here there number behind e t w

  entered-waits : (w : Wait Context Waiter) → Entered w → Waiting w
  entered-waits w x = ForEntered x.0 x.1 x.2

  -- the tuple has no object that is saved
  pub without-saved : IsExactly out (λ w. (u : Tuple) × IsEntered c s callee here there t u × (wait_for e number behind u ≡ w)) → ((o : Object) → IsSaved c.depth s here there t o → ⊥)
      → IsExactly out (IsWaiting c s callee here there number behind e t)
  without-saved x none = (λ w m. entered-waits w (x.0 w m), λ w h. x.1 w (by w h))
    where
      by : (w : Wait Context Waiter) → Waiting w → Entered w
      by w (ForEntered u enters is) = (u, enters, is)
      by w (WithSaved o saved is) = absurd (none o saved)

  -- it has one
  pub with-saved : (o : Object) → IsExactly out (λ w. (u : Tuple) × IsEntered c s callee here there t u × (wait_for e number behind u ≡ w)) → IsSaved c.depth s here there t o
      → IsExactly (out ++ wait_with e number behind t o ∷ []) (IsWaiting c s callee here there number behind e t)
  with-saved o x saved = (
    λ w m. elim (Contains-push_cases out (wait_with e number behind t o) w m) [ inl k ↦ entered-waits w (x.0 w k) | inr is ↦ WithSaved o saved is ],
    λ w h. by w h,
  )
    where
      by : (w : Wait Context Waiter) → Waiting w → Contains (out ++ wait_with e number behind t o ∷ []) w
      by w (ForEntered u enters is) = Contains-append_left out (wait_with e number behind t o ∷ []) w (x.1 w (u, enters, is))
      by w (WithSaved p other is) =
          let same : p ≡ o = one-object p o (sym other.has ∙ saved.has) in
          subst (λ z. Contains (out ++ wait_with e number behind t o ∷ []) z) (ap (wait_with e number behind t) (sym same) ∙ is) (Contains-push out (wait_with e number behind t o))

none-saved : (x : Object × Option State) → None ≡ Some x → ⊥
none-saved x e = cc

one-saved : (x y : Object × Option State) → Some x ≡ Some y → x ≡ y
one-saved x y e = cc

module _ (c : Checker) (s : Site) (caller : Function) (here there : List Object) (w : Waiter) (tuples : List Tuple) (out : List Edge) where
  abbrev Goes : Tuple → Edge → Type 0
  Goes t d = GoesOn c s caller here there w t d

  -- who has nothing saved goes on with what is handed back
  pub only-handed : w.saved ≡ None → IsExactly out (SomeGives (λ t d. (u : Tuple) × IsReturned c s caller here there t u × (woken_edge w u ≡ d)) tuples)
      → IsExactly out (SomeGives (GoesOn c s caller here there w) tuples)
  only-handed none x = (
    λ d m. let g = x.0 d m in (g.0, g.1, WithHanded g.2.0 none g.2.1 g.2.2),
    λ d h. x.1 d (h.0, h.1, by h.0 d h.2),
  )
    where
      by : (t : Tuple) (d : Edge) → Goes t d → (u : Tuple) × IsReturned c s caller here there t u × (woken_edge w u ≡ d)
      by t d (WithHanded u nothing back is) = (u, back, is)
      by t d (WithPutBack o x saved empty is) = absurd (none-saved (o, x) (sym none ∙ saved))

  -- who has an object saved goes on with it
  pub only-put-back : (o : Object) (x : Option State) → w.saved ≡ Some (o, x) → IsExactly out (SomeGives (λ t d. (t.object ≡ None) × (woken_edge w (put_back t o x) ≡ d)) tuples)
      → IsExactly out (SomeGives (GoesOn c s caller here there w) tuples)
  only-put-back o x saved y = (
    λ d m. let g = y.0 d m in (g.0, g.1, WithPutBack o x saved g.2.0 g.2.1),
    λ d h. y.1 d (h.0, h.1, by h.0 d h.2),
  )
    where
      by : (t : Tuple) (d : Edge) → Goes t d → (t.object ≡ None) × (woken_edge w (put_back t o x) ≡ d)
      by t d (WithHanded u nothing back is) = absurd (none-saved (o, x) (sym nothing ∙ saved))
      by t d (WithPutBack p z other empty is) =
          let same = one-saved (o, x) (p, z) (sym saved ∙ other) in
          (empty, ap (λ (a : Object × Option State). woken_edge w (put_back t a.0 a.1)) same ∙ is)

-- a test for what is missing
pub empty : {A : Type 0} (q : Option A) (b : Bool) → is_some q ≡ not b → b ≡ true → q ≡ None
empty None b e h = refl
empty (Some x) b e h = absurd (true≢false (e ∙ ap not h))

pub not-empty : {A : Type 0} (q : Option A) (b : Bool) → is_some q ≡ not b → b ≡ false → q ≡ None → ⊥
not-empty q b e h n = true≢false (sym (ap not h) ∙ sym e ∙ ap is_some n)
