-- What a frame comes to in a context depends on its function and on those that calls reach from it, and not on the
-- rest of the program.
-- One induction over frame edges; no path is looked at.
use Rattle.std.proofs.Common.{◌≡◌, ◌↔◌, ℕ, Bool, sym, subst}
use Rattle.path_theory.specs.Model.{Model}
use Rattle.path_theory.specs.Supergraph.{Supergraph}
use Rattle.path_theory.specs.Origins.{Origins}
use Rattle.path_theory.specs.Facts.{NoObject, HasObject, Fact, Objects, IfNoObject, IsFollowed}
use Rattle.path_theory.specs.Flows.{EventFlow, EventNone, EventObject, CallFlow, CallNone, CallObject, ReturnFlow, ReturnNone, ReturnObject}
use Rattle.path_theory.specs.FrameEdges.{FrameEdge, AtEntryIn, AlongSkipIn, AlongEventIn, OverCallIn, AroundCallIn}
use Rattle.path_theory.specs.Unchanged.{Unchanged}

module _ (M : Model) (L : Origins M) (K₁ K₂ : Supergraph M) (A₁ A₂ : Objects M) (U : M.Fn → Type 0)
    (at : K₁.Place → K₂.Place) (N : Unchanged M K₁ K₂ A₁ A₂ U at) where
  if_no_object : {f : M.Fn} (o : M.Obj) (t : Fact M) → U f → IfNoObject t (A₁ f o) → IfNoObject t (A₂ f o)
  if_no_object {f = f} o NoObject u a = N.objects f u o a
  if_no_object o (HasObject b x) u a = tt

  followed : {f : M.Fn} (t : Fact M) → U f → IsFollowed M A₁ f t → IsFollowed M A₂ f t
  followed NoObject u a = tt
  followed {f = f} (HasObject o x) u a = N.objects f u o a

  event_flow : {f : M.Fn} {k : Bool} {e : M.Event} {g : M.Global} {t v : Fact M} → U f → EventFlow M L A₁ f k e g t v
      → EventFlow M L A₂ f k e g t v
  event_flow u EventNone = EventNone
  event_flow u (EventObject {t = t} o x a w) = EventObject o x (if_no_object o t u a) w

  call_flow : {s : M.Site} {h : M.Fn} {t v : Fact M} → U h → CallFlow M L A₁ s h t v → CallFlow M L A₂ s h t v
  call_flow u CallNone = CallNone
  call_flow {h = h} u (CallObject c x a w) = CallObject c x (N.objects h u c a) w

  return_flow : {s : M.Site} {f : M.Fn} {t v : Fact M} → U f → ReturnFlow M L A₁ s f t v → ReturnFlow M L A₂ s f t v
  return_flow u ReturnNone = ReturnNone
  return_flow {f = f} u (ReturnObject o c x a d) = ReturnObject o c x (N.objects f u o a) d

  -- the entries of a context, wherever it begins
  pub unchanged : {f : M.Fn} {k : Bool} {g₀ g : M.Global} {t₀ t : Fact M} {p : K₁.Place} {n : ℕ} → U f
      → FrameEdge M K₁ L A₁ f k g₀ t₀ p g t n → FrameEdge M K₂ L A₂ f k g₀ t₀ (at p) g t n
  unchanged u (AtEntryIn {f = f} {k = k} {g = g} {t = t} a) = subst (λ p. FrameEdge M K₂ L A₂ f k g t p g t 0) (sym (N.entry f u)) (AtEntryIn (followed t u a))
  unchanged {f = f} u (AlongSkipIn D t) = AlongSkipIn (unchanged u D) (N.skips f u _ _ t)
  unchanged {f = f} u (AlongEventIn D e t a) = AlongEventIn (unchanged u D) e (N.goes f u _ e _ t) (event_flow u a)
  unchanged {f = f} u (OverCallIn {h = h} D s t a C e b) =
      let v = N.callees f u _ s h _ t in
      OverCallIn (unchanged u D) s (N.calls f u _ s h _ t) (call_flow v a) (unchanged v C) (N.ends h v _ e) (return_flow u b)
  unchanged {f = f} u (AroundCallIn {h = h} D s t C e d) =
      let v = N.callees f u _ s h _ t in
      AroundCallIn (unchanged u D) s (N.calls f u _ s h _ t) (unchanged v C) (N.ends h v _ e) d

-- the places of the second program that correspond to places of the first come back to them
module _ (M : Model) (L : Origins M) (K₁ K₂ : Supergraph M) (A₁ A₂ : Objects M) (U : M.Fn → Type 0)
    (at : K₁.Place → K₂.Place) (back : K₂.Place → K₁.Place) (N : Unchanged M K₁ K₂ A₁ A₂ U at)
    (O : Unchanged M K₂ K₁ A₂ A₁ U back) (same : (p : K₁.Place) → back (at p) ≡ p) where
  -- a frame comes to exactly the same in both programs
  pub unchanged_both : {f : M.Fn} {k : Bool} {g₀ g : M.Global} {t₀ t : Fact M} (p : K₁.Place) {n : ℕ} → U f
      → FrameEdge M K₁ L A₁ f k g₀ t₀ p g t n ↔ FrameEdge M K₂ L A₂ f k g₀ t₀ (at p) g t n
  unchanged_both {f = f} {k = k} {g₀ = g₀} {g = g} {t₀ = t₀} {t = t} p {n = n} u = (
    unchanged M L K₁ K₂ A₁ A₂ U at N u,
    (λ w. subst (λ q. FrameEdge M K₁ L A₁ f k g₀ t₀ q g t n) (same p) (unchanged M L K₂ K₁ A₂ A₁ U back O u w)),
  )
