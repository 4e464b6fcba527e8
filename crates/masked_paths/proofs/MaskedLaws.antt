-- The laws hold of a checker with a mask by the mask alone: it is local, and the family that it follows is closed, whatever
-- that is.
use Rattle.std.proofs.Common.{◌≡◌, Bool, true, false, cond, Option, Some, None, List, [], ◌∷◌, refl, sym, ◌∙◌, ap, subst, inl, inr}
use Rattle.path_theory.specs.Model.{Model}
use Rattle.path_theory.specs.Supergraph.{Supergraph}
use Rattle.path_theory.specs.Origins.{Origins, IsLocal}
use Rattle.path_theory.specs.Relevant.{EventOf, CallOf, IsClosed}
use Rattle.path_theory.specs.FlowGraphs.{FlowGraphs, supergraph}
use Rattle.path_theory.proofs.BlockEvents.{IsIn, event_in_block, call_in_block}
use Rattle.masked_paths.specs.Masked.{EventIn, SiteIn, Mask, kept, masked, masked_origins, GoesIn, GoesAt, CallsIn, CallsAt, masked_supergraph, CallIn, CallAt, masked_events, masked_graphs}
use Rattle.masked_paths.proofs.Masks.{within_some}

chosen_is : {S : Type 0} (t : Bool) (z : Option S) (x : S) → cond t z None ≡ Some x → t ≡ true
chosen_is true z x d = refl
chosen_is false z x d = cc

module _ (M : Model) (L : Origins M) (a : Mask M) where
  abbrev N : Model
  N = masked M L a

  pub masked_local : IsLocal N (masked_origins M L a)
  masked_local = record { moved = λ e m o. refl; entered = λ s m o. refl; returned = λ s n m o. refl }

  -- events and calls have their own functions with them
  pub record KnowsFunctions (J : Supergraph N) : Type 0 where
    pub event : {f : M.Fn} {e : EventIn M.Fn M.Event} → EventOf N J f e → e.fn ≡ f
    pub call : {f h : M.Fn} {s : SiteIn M.Fn M.Site} → CallOf N J f s h → (s.caller ≡ f) × (s.callee ≡ h)

  module _ (J : Supergraph N) (W : KnowsFunctions J) where
    same_side : {f : M.Fn} {e : EventIn M.Fn M.Event} (o b : M.Obj) → EventOf N J f e
        → (masked_origins M L a).source e o ≡ Some b → a.follows f o ≡ a.follows f b
    same_side {e = e} o b i d = subst (λ g. a.follows g o ≡ a.follows g b) (W.event i) ((within_some a.loose (a.follows e.fn o) (a.follows e.fn) (L.source e.event o) b d).1)

    both_sides : {f h : M.Fn} {s : SiteIn M.Fn M.Site} (c o : M.Obj) → CallOf N J f s h → a.follows s.callee c ≡ a.follows s.caller o
        → a.follows h c ≡ a.follows f o
    both_sides {f = f} {s = s} c o i d =
        let w = W.call i in subst (λ g. a.follows g c ≡ a.follows f o) w.1 (subst (λ g. a.follows s.callee c ≡ a.follows g o) w.0 d)

    pub closed_by_mask : IsClosed N J (masked_origins M L a) (kept M a)
    closed_by_mask = record {
      source = λ o b i d t. sym (same_side o b i d) ∙ t;
      source_on = λ o b i d t. same_side o b i d ∙ t;
      into = λ {s = s} c o i d t. sym (both_sides c o i ((within_some a.loose (a.follows s.callee c) (a.follows s.caller) (L.into s.site c) o d).1)) ∙ t;
      into_on = λ {s = s} c o i d t. both_sides c o i ((within_some a.loose (a.follows s.callee c) (a.follows s.caller) (L.into s.site c) o d).1) ∙ t;
      out = λ {s = s} o c i d t. both_sides c o i (sym ((within_some a.loose (a.follows s.caller o) (a.follows s.callee) (L.out s.site o) c d).1)) ∙ t;
      out_on = λ {s = s} o c i d t. sym (both_sides c o i (sym ((within_some a.loose (a.follows s.caller o) (a.follows s.callee) (L.out s.site o) c d).1))) ∙ t;
      binds = λ {f = f} {e = e} k g o x i d. chosen_is (a.follows f o) (M.choose e.event f k g o None) x d;
      fires = λ k g o r i d. d.0;
    }

  -- so does a program under the mask
  goes_in : (K : Supergraph M) {f : M.Fn} {p q : K.Place} {e : EventIn M.Fn M.Event} → GoesIn M L a K f p e q → e.fn ≡ f
  goes_in K (GoesAt t) = refl

  calls_in : (K : Supergraph M) {f h : M.Fn} {p q : K.Place} {s : SiteIn M.Fn M.Site} → CallsIn M L a K f p s h q
      → (s.caller ≡ f) × (s.callee ≡ h)
  calls_in K (CallsAt t) = (refl, refl)

  pub knows_functions : (K : Supergraph M) → KnowsFunctions (masked_supergraph M L a K)
  knows_functions K = record { event = λ i. goes_in K i.goes; call = λ i. calls_in K i.calls }

  pub masked_closed : (K : Supergraph M) → IsClosed N (masked_supergraph M L a K) (masked_origins M L a) (kept M a)
  masked_closed K = closed_by_mask (masked_supergraph M L a K) (knows_functions K)

  -- and one in blocks
  in_events : (G : FlowGraphs M) (f : M.Fn) (es : List M.Event) (e : EventIn M.Fn M.Event)
      → IsIn e (masked_events M f es) → e.fn ≡ f
  in_events G f [] e i = absurd i
  in_events G f (d ∷ es) e i = elim i [ inl w ↦ ap (λ x. x.fn) w | inr w ↦ in_events G f es e w ]

  call_in : (G : FlowGraphs M) {f h : M.Fn} {b c : G.Block} {s : SiteIn M.Fn M.Site} → CallIn M L a G f b s h c
      → (s.caller ≡ f) × (s.callee ≡ h)
  call_in G (CallAt j) = (refl, refl)

  pub graphs_know_functions : (G : FlowGraphs M) → KnowsFunctions (supergraph N (masked_graphs M L a G))
  graphs_know_functions G = record {
    event = λ {f = f} {e = e} i. let w = event_in_block N (masked_graphs M L a G) i in in_events G f (G.events f w.0) e w.1;
    call = λ i. let w = call_in_block N (masked_graphs M L a G) i in call_in G w.2;
  }

  pub graphs_closed : (G : FlowGraphs M) → IsClosed N (supergraph N (masked_graphs M L a G)) (masked_origins M L a) (kept M a)
  graphs_closed G = closed_by_mask (supergraph N (masked_graphs M L a G)) (graphs_know_functions G)
