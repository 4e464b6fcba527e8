-- Origins under a strict mask are those among what is followed.
use Rattle.std.proofs.Common.{◌≡◌, ◌↔◌, inl, inr, Bool, true, false, cond, Option, None, Some, List, [], ◌∷◌, refl, sym, ap, subst, ◌∙◌, true≢false}
use Rattle.path_theory.specs.Facts.{Objects, NoObject, HasObject, Fact, IfNoObject}
use Rattle.path_theory.specs.Model.{Model}
use Rattle.path_theory.specs.Origins.{Origins}
use Rattle.path_theory.specs.BlockEdges.{Crosses, CrossesNone, CrossesOne, Shows, ShowsObject, ShowsGlobal, ShowsLater}
use Rattle.path_theory.specs.Flows.{EventFlow, EventNone, EventObject, CallFlow, CallNone, CallObject, ReturnFlow, ReturnNone, ReturnObject}
use Rattle.masked_paths.specs.Masked.{Mask, kept, within, masked, masked_origins, masked_events}
use Rattle.masked_paths.specs.Within.{origins_within}
use Rattle.masked_paths.proofs.WithinFlows.{same_crossing, same_shows}
use Rattle.masked_paths.proofs.WithinCalls.{same_call_flow, same_return_flow}
use Rattle.masked_paths.specs.StrictFlows.Among.{if_followed, of_followed, origins_among, tested, Begins, AreStrict}

-- ---- one origin

strict_is : {O : Type 0} (own : Bool) (test : O → Bool) (z : Option O) → within false own test z ≡ of_followed own (if_followed test z)
strict_is true test None = refl
strict_is false test None = refl
strict_is true test (Some b) = refl
strict_is false test (Some b) = refl

begins_so : {O : Type 0} (test : O → Bool) (z : Option O) → (if_followed test z ≡ None) ↔ Begins test z
begins_so test None = (λ e. inl refl, λ h. refl)
begins_so test (Some b) = by (test b) refl
  where
    by : (t : Bool) → test b ≡ t → (cond (test b) (Some b) None ≡ None) ↔ Begins test (Some b)
    by true e = (
      λ h. let s : Some b ≡ None = sym (ap (λ t. cond t (Some b) None) e) ∙ h in cc,
      λ h. elim h [ inl n ↦ cc | inr w ↦ let same : b ≡ w.0 = cc in absurd (true≢false (sym e ∙ ap test same ∙ w.2)) ],
    )
    by false e = (λ h. inr (b, refl, e), λ h. ap (λ t. cond t (Some b) None) e)

takes_so : {O : Type 0} (test : O → Bool) (z : Option O) (b : O) → (if_followed test z ≡ Some b) ↔ ((test b ≡ true) × (z ≡ Some b))
takes_so test None b = (λ e. cc, λ h. cc)
takes_so test (Some d) b = by (test d) refl
  where
    by : (t : Bool) → test d ≡ t → (cond (test d) (Some d) None ≡ Some b) ↔ ((test b ≡ true) × (Some d ≡ Some b))
    by true e = (
      λ h. let s : Some d ≡ Some b = sym (ap (λ t. cond t (Some d) None) e) ∙ h in let same : d ≡ b = cc in (sym (ap test same) ∙ e, s),
      λ h. ap (λ t. cond t (Some d) None) e ∙ h.1,
    )
    by false e = (
      λ h. let s : None ≡ Some b = sym (ap (λ t. cond t (Some d) None) e) ∙ h in cc,
      λ h. let same : d ≡ b = cc in absurd (true≢false (sym h.0 ∙ sym (ap test same) ∙ e)),
    )

pub are_strict : {O : Type 0} (own : Bool) (test : O → Bool) (z : Option O) → AreStrict own test z
are_strict true test z = record {
  begins = λ e. begins_so test z;
  takes = λ b. let t = takes_so test z b in (λ h. let v = t.0 h in (refl, v.0, v.1), λ h. t.1 (h.1, h.2));
}
are_strict false test z = record { begins = λ e. absurd (true≢false (sym e)); takes = λ b. (λ h. cc, λ h. absurd (true≢false (sym h.0))) }

-- ---- all of them

module _ (M : Model) (L : Origins M) (a : Mask M) (strict : a.loose ≡ false) (f h : M.Fn) where
  -- by the tests that the mask has
  within_is : origins_within M L a f h ≡ origins_among M L (a.follows f) (a.follows h)
  within_is = λ i. record {
    source = λ e o. (ap (λ l. within l (a.follows f o) (a.follows f) (L.source e o)) strict ∙ strict_is (a.follows f o) (a.follows f) (L.source e o)) i;
    into = λ s c. (ap (λ l. within l (a.follows h c) (a.follows f) (L.into s c)) strict ∙ strict_is (a.follows h c) (a.follows f) (L.into s c)) i;
    out = λ s o. (ap (λ l. within l (a.follows f o) (a.follows h) (L.out s o)) strict ∙ strict_is (a.follows f o) (a.follows h) (L.out s o)) i;
  }

  module _ (here there : M.Obj → Bool) (same : (o : M.Obj) → a.follows f o ≡ here o) (same_there : (o : M.Obj) → a.follows h o ≡ there o) where
    pub origins_are : origins_within M L a f h ≡ origins_among M L here there
    origins_are = within_is ∙ (λ i. origins_among M L (λ o. same o i) (λ o. same_there o i))

-- ---- flows depend on which objects are followed in the one function alone

module _ (M : Model) (L : Origins M) (A B : Objects M) where
  if_none : (f : M.Fn) (o : M.Obj) (t : Fact M) → (A f o → B f o) → IfNoObject t (A f o) → IfNoObject t (B f o)
  if_none f o NoObject h a = h a
  if_none f o (HasObject p x) h a = tt

  event_over : {f : M.Fn} {k : Bool} {e : M.Event} {g : M.Global} {t u : Fact M} → ((o : M.Obj) → A f o → B f o) → EventFlow M L A f k e g t u → EventFlow M L B f k e g t u
  event_over h EventNone = EventNone
  event_over {f = f} {t = t} h (EventObject o x a s) = EventObject o x (if_none f o t (h o) a) s

  pub crosses_over : {f : M.Fn} {k : Bool} (es : List M.Event) {g i : M.Global} {t v : Fact M} → ((o : M.Obj) → A f o → B f o) → Crosses M L A f k es g t i v → Crosses M L B f k es g t i v
  crosses_over [] h CrossesNone = CrossesNone
  crosses_over (e ∷ es) h (CrossesOne x y) = CrossesOne (event_over h x) (crosses_over es h y)

  pub shows_over : {f : M.Fn} {k : Bool} {r : M.Report} (es : List M.Event) {g : M.Global} {t : Fact M} → ((o : M.Obj) → A f o → B f o) → Shows M L A f k r es g t → Shows M L B f k r es g t
  shows_over [] h w = elim w [ ]
  shows_over {f = f} (e ∷ es) {t = t} h (ShowsObject o x a s w) = ShowsObject o x (if_none f o t (h o) a) s w
  shows_over (e ∷ es) h (ShowsGlobal w) = ShowsGlobal w
  shows_over (e ∷ es) h (ShowsLater x w) = ShowsLater (event_over h x) (shows_over es h w)

  pub call_over : {s : M.Site} {f : M.Fn} {t u : Fact M} → ((o : M.Obj) → A f o → B f o) → CallFlow M L A s f t u → CallFlow M L B s f t u
  call_over h CallNone = CallNone
  call_over h (CallObject c x a g) = CallObject c x (h c a) g

  pub return_over : {s : M.Site} {f : M.Fn} {t u : Fact M} → ((o : M.Obj) → A f o → B f o) → ReturnFlow M L A s f t u → ReturnFlow M L B s f t u
  return_over h ReturnNone = ReturnNone
  return_over h (ReturnObject o c x a e) = ReturnObject o c x (h o a) e

-- ---- what flows

module _ (M : Model) (L : Origins M) (a : Mask M) (strict : a.loose ≡ false) (f h : M.Fn) (here there : M.Obj → Bool)
    (same : (o : M.Obj) → a.follows f o ≡ here o) (same_there : (o : M.Obj) → a.follows h o ≡ there o) where
  abbrev W : Origins M
  W = origins_among M L here there

  abbrev is : origins_within M L a f h ≡ W
  is = origins_are M L a strict f h here there same same_there

  in_here : (o : M.Obj) → kept M a f o → tested M here f o
  in_here o k = sym (same o) ∙ k

  out_here : (o : M.Obj) → tested M here f o → kept M a f o
  out_here o k = same o ∙ k

  in_there : (o : M.Obj) → kept M a h o → tested M there h o
  in_there o k = sym (same_there o) ∙ k

  out_there : (o : M.Obj) → tested M there h o → kept M a h o
  out_there o k = same_there o ∙ k

  pub crossing_among : (k : Bool) (es : List M.Event) (g i : M.Global) (t v : Fact M)
      → Crosses (masked M L a) (masked_origins M L a) (kept M a) f k (masked_events M f es) g t i v ↔ Crosses M W (tested M here) f k es g t i v
  crossing_among k es g i t v = let x = same_crossing M L a f h k es g i t v (inl strict) in (
    λ w. crosses_over M W (kept M a) (tested M here) es in_here (subst (λ z. Crosses M z (kept M a) f k es g t i v) is (x.0 w)),
    λ w. x.1 (subst (λ z. Crosses M z (kept M a) f k es g t i v) (sym is) (crosses_over M W (tested M here) (kept M a) es out_here w)),
  )

  pub shows_among : (k : Bool) (r : M.Report) (es : List M.Event) (g : M.Global) (t : Fact M)
      → Shows (masked M L a) (masked_origins M L a) (kept M a) f k r (masked_events M f es) g t ↔ Shows M W (tested M here) f k r es g t
  shows_among k r es g t = let x = same_shows M L a f h k r es g t (inl strict) in (
    λ w. shows_over M W (kept M a) (tested M here) es in_here (subst (λ z. Shows M z (kept M a) f k r es g t) is (x.0 w)),
    λ w. x.1 (subst (λ z. Shows M z (kept M a) f k r es g t) (sym is) (shows_over M W (tested M here) (kept M a) es out_here w)),
  )

  pub call_among : (s : M.Site) (t u : Fact M)
      → CallFlow (masked M L a) (masked_origins M L a) (kept M a) (record { caller = f; site = s; callee = h }) h t u ↔ CallFlow M W (tested M there) s h t u
  call_among s t u = let x = same_call_flow M L a f h s t u in (
    λ w. call_over M W (kept M a) (tested M there) in_there (subst (λ z. CallFlow M z (kept M a) s h t u) is (x.0 w)),
    λ w. x.1 (subst (λ z. CallFlow M z (kept M a) s h t u) (sym is) (call_over M W (tested M there) (kept M a) out_there w)),
  )

  pub return_among : (s : M.Site) (t u : Fact M)
      → ReturnFlow (masked M L a) (masked_origins M L a) (kept M a) (record { caller = f; site = s; callee = h }) f t u ↔ ReturnFlow M W (tested M here) s f t u
  return_among s t u = let x = same_return_flow M L a f h s t u in (
    λ w. return_over M W (kept M a) (tested M here) in_here (subst (λ z. ReturnFlow M z (kept M a) s f t u) is (x.0 w)),
    λ w. x.1 (subst (λ z. ReturnFlow M z (kept M a) s f t u) (sym is) (return_over M W (tested M here) (kept M a) out_here w)),
  )
