-- The list of targets has exactly the objects with that source.
use Rattle.std.proofs.Common.{◌≡◌, ◌⊎◌, inl, inr, ℕ, List, [], ◌∷◌, ◌++◌, Bool, true, false, Option, None, Some, refl, ◌∙◌, sym, ap, subst, cond, not, ◌&&◌, true≢false, Result, Ok, Err, IfOk}
use Rattle.std.specs.Prelude.{is_none}
use Rattle.std.specs.Option.{option_to_list}
use Rattle.c_objects.specs.Facts.{Facts}
use Rattle.c_objects.specs.Objects.{Selector, Object, IsObject, is_object, if_object}
use Rattle.c_objects.specs.Paths.{rebase}
use Rattle.c_objects.specs.Replaced.{replaced}
use Rattle.c_objects.proofs.Plain.{is-object, object-is, if-object, object-if}
use Rattle.c_objects.proofs.Replacing.{replaces}
use Rattle.flow_graph.specs.CPaths.Events.{Event}
use Rattle.flow_graph.specs.CPaths.Membership.{Among}
use Rattle.type_rules.specs.Options.{◌>?◌, if_there}
use Rattle.path_model.specs.CheckerModel.Moves.{Move, IsMove, move_of, under, indexes, copied, source_of, source}
use Rattle.path_model.proofs.CheckerModel.MovedObjects.{move-is}
use Rattle.path_model.proofs.CheckerModel.Sources.{given, some-copied, source-object}
use Rattle.synonyms_kills.specs.Targets.{AreTargets, stays, if_copied, copy_of, targets}
use Rattle.path_model.specs.CheckerModel.Distinct.{AreDistinct}

module _ (depth : ℕ) (m : Move) (o : Object) (is : IsMove depth m) (io : IsObject depth o) where
  source-is : (q : Object) → IsObject depth q → source depth (Some m) q ≡ source_of depth m q
  source-is q iq = ap (λ z. z >? source_of depth m) (if-object depth q iq)

  -- what has a source is an object
  has-source : (q : Object) → source depth (Some m) q ≡ Some o → IsObject depth q
  has-source q h =
      let g = given (if_object depth q) (source_of depth m) o h in
      let k = object-if depth q g.0 g.1 in
      subst (IsObject depth) (sym k.0) k.1

  -- the object itself, where it isn't under what is written over
  stays-by : (q : Object) → stays m q ≡ true → source_of depth m q ≡ Some q
  stays-by q h = by (under m.to q) (indexes m.to q.selectors) h
    where
      by : (u : Option (List Selector)) (b : Bool) → (is_none u && not b) ≡ true → if_there u (cond b None (Some q)) (copied depth m q) ≡ Some q
      by None false e = refl
      by None true e = cc
      by (Some r) b e = cc

  -- one to which the state is copied
  copies-by : (q a : Object) (r : List Selector) → under m.to q ≡ Some r → indexes m.to r ≡ false → m.from ≡ Some a → rebase depth q m.to a ≡ Some o → source_of depth m q ≡ Some o
  copies-by q a r u n f b =
      ap (λ z. if_there z (cond (indexes m.to q.selectors) None (Some q)) (copied depth m q)) u
      ∙ ap (λ z. cond z None (m.from >? λ a. rebase depth q m.to a)) n
      ∙ ap (λ z. z >? λ a. rebase depth q m.to a) f
      ∙ b

  -- what is found as a copy, and how
  pub record IsCopy (q : Object) : Type 0 where
    pub from : Object
    pub copies : m.from ≡ Some from
    pub steps : List Selector
    pub lies : under m.to q ≡ Some steps
    pub keeps : indexes m.to steps ≡ false
    pub object : IsObject depth q
    pub becomes : rebase depth q m.to from ≡ Some o

  copied-if : (a q p : Object) → m.from ≡ Some a → replaced depth m.to a o ≡ Some p → if_copied m p ≡ Some q → IsCopy q
  copied-if a q p f r h =
      let u = given (under m.to p) (λ r. cond (indexes m.to r) None (Some p)) q h in
      let t = untested (indexes m.to u.0) u.2 in
      let same : p ≡ q = t.1 in
      let both = (replaces depth m.to a o p is.path (some-copied depth m a is f) io).0 r in
      subst IsCopy same (record { from = a; copies = f; steps = u.0; lies = u.1; keeps = t.0; object = both.0; becomes = both.1 })
    where
      untested : (b : Bool) → cond b None (Some p) ≡ Some q → (b ≡ false) × (p ≡ q)
      untested false e = (refl, cc)
      untested true e = cc

  copy-is : (q : Object) → copy_of depth m o ≡ Some q → IsCopy q
  copy-is q h =
      let g = given m.from (λ a. replaced depth m.to a o >? if_copied m) q h in
      let r = given (replaced depth m.to g.0 o) (if_copied m) q g.2 in
      copied-if g.0 q r.0 g.1 r.1 r.2

  is-copy : (q : Object) → IsCopy q → copy_of depth m o ≡ Some q
  is-copy q c =
      ap (λ z. z >? λ a. replaced depth m.to a o >? if_copied m) c.copies
      ∙ ap (λ z. z >? if_copied m) ((replaces depth m.to c.from o q is.path (some-copied depth m c.from is c.copies) io).1 (c.object, c.becomes))
      ∙ ap (λ z. z >? λ r. cond (indexes m.to r) None (Some q)) c.lies
      ∙ ap (λ z. cond z None (Some q)) c.keeps

  -- where a source comes from
  copied-back : (q : Object) (r : List Selector) → IsObject depth q → under m.to q ≡ Some r → copied depth m q r ≡ Some o → IsCopy q
  copied-back q r iq u h = by (indexes m.to r) refl h
    where
      by : (b : Bool) → indexes m.to r ≡ b → cond b None (m.from >? λ a. rebase depth q m.to a) ≡ Some o → IsCopy q
      by true e k = cc
      by false e k = let g = given m.from (λ a. rebase depth q m.to a) o k in record { from = g.0; copies = g.1; steps = r; lies = u; keeps = e; object = iq; becomes = g.2 }

  back : (q : Object) → IsObject depth q → source_of depth m q ≡ Some o → ((q ≡ o) × (stays m q ≡ true)) ⊎ IsCopy q
  back q iq h = by (under m.to q) refl h
    where
      stay : under m.to q ≡ None → (b : Bool) → indexes m.to q.selectors ≡ b → cond b None (Some q) ≡ Some o → ((q ≡ o) × (stays m q ≡ true)) ⊎ IsCopy q
      stay u true e k = cc
      stay u false e k = inl (cc, ap (λ z. is_none z && not (indexes m.to q.selectors)) u ∙ ap not e)

      by : (u : Option (List Selector)) → under m.to q ≡ u → if_there u (cond (indexes m.to q.selectors) None (Some q)) (copied depth m q) ≡ Some o → ((q ≡ o) × (stays m q ≡ true)) ⊎ IsCopy q
      by None e k = stay e (indexes m.to q.selectors) refl k
      by (Some r) e k = inr (copied-back q r iq e k)

  -- a copy isn't the object itself, where that stays
  apart : (q : Object) → stays m o ≡ true → IsCopy q → o ≡ q → ⊥
  apart q s c e = by (under m.to o) refl s
    where
      by : (u : Option (List Selector)) → under m.to o ≡ u → (is_none u && not (indexes m.to o.selectors)) ≡ true → ⊥
      by None k h = none≢some (sym k ∙ ap (under m.to) e ∙ c.lies)
        where
          none≢some : None ≡ Some c.steps → ⊥
          none≢some x = cc
      by (Some r) k h = cc

  list_of : Bool → Option Object → List Object
  list_of b c = cond b (o ∷ []) [] ++ option_to_list c

  listed : (b : Bool) (c : Option Object) → stays m o ≡ b → copy_of depth m o ≡ c → AreTargets depth (Some m) o (cond b (o ∷ []) [] ++ option_to_list c)
  listed b c s e = record { objects = objects b c s e; real = real b c s e; whole = whole b c s e; distinct = distinct b c s e }
    where
      objects : (b : Bool) (c : Option Object) → stays m o ≡ b → copy_of depth m o ≡ c → (q : Object) → Among q (cond b (o ∷ []) [] ++ option_to_list c) → IsObject depth q
      objects true c s e q (inl h) = subst (IsObject depth) (sym h) io
      objects true (Some p) s e q (inr (inl h)) = subst (IsObject depth) (sym h) (copy-is p e).object
      objects true (Some p) s e q (inr (inr h)) = absurd h
      objects true None s e q (inr h) = absurd h
      objects false (Some p) s e q (inl h) = subst (IsObject depth) (sym h) (copy-is p e).object
      objects false (Some p) s e q (inr h) = absurd h
      objects false None s e q h = absurd h

      itself : stays m o ≡ true → source depth (Some m) o ≡ Some o
      itself s = source-is o io ∙ stays-by o s

      copy : (p : Object) → copy_of depth m o ≡ Some p → source depth (Some m) p ≡ Some o
      copy p e = let c = copy-is p e in source-is p c.object ∙ copies-by p c.from c.steps c.lies c.keeps c.copies c.becomes

      real : (b : Bool) (c : Option Object) → stays m o ≡ b → copy_of depth m o ≡ c → (q : Object) → Among q (cond b (o ∷ []) [] ++ option_to_list c) → source depth (Some m) q ≡ Some o
      real true c s e q (inl h) = ap (source depth (Some m)) h ∙ itself s
      real true (Some p) s e q (inr (inl h)) = ap (source depth (Some m)) h ∙ copy p e
      real true (Some p) s e q (inr (inr h)) = absurd h
      real true None s e q (inr h) = absurd h
      real false (Some p) s e q (inl h) = ap (source depth (Some m)) h ∙ copy p e
      real false (Some p) s e q (inr h) = absurd h
      real false None s e q h = absurd h

      true≢false : true ≡ false → ⊥
      true≢false h = cc

      some≢none : (q : Object) → Some q ≡ None → ⊥
      some≢none q h = cc

      own : (q : Object) → (q ≡ o) × (stays m q ≡ true) → stays m o ≡ true
      own q h = subst (λ z. stays m z ≡ true) h.0 h.1

      found : (b : Bool) (c : Option Object) → stays m o ≡ b → copy_of depth m o ≡ c → (q : Object) → ((q ≡ o) × (stays m q ≡ true)) ⊎ IsCopy q → Among q (cond b (o ∷ []) [] ++ option_to_list c)
      found true c s e q (inl h) = inl h.0
      found false c s e q (inl h) = absurd (true≢false (sym (own q h) ∙ s))
      found true (Some p) s e q (inr c) = let same : Some q ≡ Some p = sym (is-copy q c) ∙ e in inr (inl cc)
      found false (Some p) s e q (inr c) = let same : Some q ≡ Some p = sym (is-copy q c) ∙ e in inl cc
      found b None s e q (inr c) = absurd (some≢none q (sym (is-copy q c) ∙ e))

      whole : (b : Bool) (c : Option Object) → stays m o ≡ b → copy_of depth m o ≡ c → (q : Object) → source depth (Some m) q ≡ Some o → Among q (cond b (o ∷ []) [] ++ option_to_list c)
      whole b c s e q h = let iq = has-source q h in found b c s e q (back q iq (sym (source-is q iq) ∙ h))

      distinct : (b : Bool) (c : Option Object) → stays m o ≡ b → copy_of depth m o ≡ c → AreDistinct (cond b (o ∷ []) [] ++ option_to_list c)
      distinct true None s e = (λ h. h, tt)
      distinct true (Some p) s e = ((λ h. by h), ((λ h. h), tt))
        where
          by : (o ≡ p) ⊎ ⊥ → ⊥
          by (inl h) = apart p s (copy-is p e) h
          by (inr h) = h
      distinct false None s e = tt
      distinct false (Some p) s e = ((λ h. h), tt)

nothing-moves : (depth : ℕ) (o : Object) → IsObject depth o → AreTargets depth None o (o ∷ [])
nothing-moves depth o io = record { objects = objects; real = real; whole = whole; distinct = ((λ h. h), tt) }
  where
    objects : (q : Object) → Among q (o ∷ []) → IsObject depth q
    objects q (inl h) = subst (IsObject depth) (sym h) io
    objects q (inr h) = absurd h

    real : (q : Object) → Among q (o ∷ []) → source depth None q ≡ Some o
    real q (inl h) = ap (source depth None) h ∙ if-object depth o io
    real q (inr h) = absurd h

    whole : (q : Object) → source depth None q ≡ Some o → Among q (o ∷ [])
    whole q h = inl (object-if depth q o h).0

module _ (u : Facts) (depth : ℕ) (e : Event) (o : Object) where
  -- THE TARGETS of an object at an event
  pub are_targets : is_object depth o ≡ true → AreTargets depth (move_of u depth e) o (targets depth (move_of u depth e) o)
  are_targets h = by (move_of u depth e) refl
    where
      here : IsObject depth o
      here = is-object depth o h

      by : (m : Option Move) → move_of u depth e ≡ m → AreTargets depth m o (targets depth m o)
      by None k = nothing-moves depth o here
      by (Some m) k = listed depth m o (move-is u depth e m k) here (stays m o) (copy_of depth m o) refl refl

  -- what is no object has none
  pub no_targets : is_object depth o ≡ false → AreTargets depth (move_of u depth e) o []
  no_targets h = record {
    objects = λ q k. absurd k;
    real = λ q k. absurd k;
    whole = λ q k. let s = source-object depth (move_of u depth e) q o (move-is u depth e) k in absurd (true≢false (sym (object-is depth o s.1) ∙ h));
    distinct = tt;
  }

pub if-ok : {A E : Type 0} (P Q : A → Type 0) (r : Result A E) → ((a : A) → P a → Q a) → IfOk r P → IfOk r Q
if-ok P Q (Ok a) f h = f a h
if-ok P Q (Err e) f h = tt
