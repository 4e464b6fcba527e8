-- Such masks have the same steps between entries, and so the same least set of them.
use Rattle.std.proofs.Common.{◌≡◌, Bool, IsTrue, sym, subst, ◌∙◌}
use Rattle.path_theory.specs.Model.{Model}
use Rattle.path_theory.specs.Origins.{Origins}
use Rattle.path_theory.specs.Facts.{Fact, Objects}
use Rattle.path_theory.specs.BlockEdges.{Crosses, Shows}
use Rattle.path_theory.specs.FlowGraphs.{FlowGraphs}
use Rattle.path_theory.specs.Merged.{Kinds}
use Rattle.path_theory.specs.Entries.{Entry, Base, BaseRoot, Step, StepNext, StepCall, StepReturn, StepSaved, Least, OfBase, OfStep}
use Rattle.masked_paths.specs.Masked.{masked, masked_origins, CallAt, masked_events, masked_graphs}
use Rattle.masked_paths.proofs.MaskedEnds.{unknown_in, unknown_out}
use Rattle.suffix_summary.proofs.SameFlows.{a, b, SameOrigins, Followed, starts_on, crosses_on, shows_on, call_on, return_on}

module _ (M : Model) (L O : Origins M) (follows : M.Fn → M.Obj → Bool) (l n : Bool) (S : SameOrigins M L O follows l n) (G : FlowGraphs M) where
  abbrev N : Model
  N = masked M L (a M L O follows l n)

  abbrev P : Model
  P = masked M O (b M L O follows l n)

  abbrev NO : Origins N
  NO = masked_origins M L (a M L O follows l n)

  abbrev PO : Origins P
  PO = masked_origins M O (b M L O follows l n)

  abbrev NG : FlowGraphs N
  NG = masked_graphs M L (a M L O follows l n) G

  abbrev PG : FlowGraphs P
  PG = masked_graphs M O (b M L O follows l n) G

  abbrev A : Objects M
  A f o = IsTrue (follows f o)

  abbrev F : M.Fn → Fact M → Type 0
  F = Followed M L O follows l n S

  -- the same kinds of frames, and the same entries
  abbrev pub kinds_on : Kinds N NG → Kinds P PG
  kinds_on C = record {
    kind = C.kind;
    of_root = λ t r u. C.of_root t r (unknown_in M L (a M L O follows l n) t (unknown_out M O (b M L O follows l n) t u));
    is_root = λ {f = f} {g = g} {t = t} d. let w = C.is_root {f = f} {g = g} {t = t} d in (w.0, w.1, unknown_in M O (b M L O follows l n) t (unknown_out M L (a M L O follows l n) t w.2));
  }

  abbrev pub entry_on : Entry N NG → Entry P PG
  entry_on e = record { fn = e.fn; global₀ = e.global₀; fact₀ = e.fact₀; block = e.block; global = e.global; fact = e.fact }

  abbrev pub back_from : (Entry N NG → Type 0) → Entry P PG → Type 0
  back_from X e = X (record { fn = e.fn; global₀ = e.global₀; fact₀ = e.fact₀; block = e.block; global = e.global; fact = e.fact })

  module _ (C : Kinds N NG) (D : Kinds P PG) (same : (f : M.Fn) (g : M.Global) (t : Fact M) → C.kind f g t ≡ D.kind f g t) where
    pub base_on : {e : Entry N NG} → Base N NO A NG C e → Base P PO A PG D (entry_on e) × F e.fn e.fact
    base_on (BaseRoot r s) = let x = starts_on M L O follows l n S s in (BaseRoot r x.0, x.1)

    ends_on : (e : Entry N NG) {i : M.Global} {u : Fact M} → F e.fn e.fact
        → Crosses N NO A e.fn (C.kind e.fn e.global₀ e.fact₀) (masked_events M e.fn (G.events e.fn e.block)) e.global e.fact i u
        → Crosses P PO A e.fn (D.kind e.fn e.global₀ e.fact₀) (masked_events M e.fn (G.events e.fn e.block)) e.global e.fact i u × F e.fn u
    ends_on e {i = i} {u = u} w c =
        let x = crosses_on M L O follows l n S (G.events e.fn e.block) w c in
        (subst (λ k. Crosses P PO A e.fn k (masked_events M e.fn (G.events e.fn e.block)) e.global e.fact i u) (same e.fn e.global₀ e.fact₀) x.0, x.1)

    pub step_on : {x y z : Entry N NG} → F x.fn x.fact → Step N NO A NG C x y z
        → Step P PO A PG D (entry_on x) (entry_on y) (entry_on z) × F z.fn z.fact
    step_on w (StepNext e x i u c h j) = let v = ends_on e w h in (StepNext (entry_on e) (entry_on x) i u c v.0 j, v.1)
    step_on w (StepCall e x i u v s h c d (CallAt j) k) =
        let y = call_on M L O follows l n S k in
        (StepCall (entry_on e) (entry_on x) i u v _ h c (ends_on e w d).0 (CallAt j) y.0, y.1)
    step_on w (StepReturn e x u y s c d (CallAt j) k h r) =
        let v = return_on M L O follows l n S r in
        (StepReturn (entry_on e) (entry_on x) u y _ c (ends_on e w d).0 (CallAt j) (call_on M L O follows l n S k).0 h v.0, v.1)
    step_on w (StepSaved e x o z s c d (CallAt {s = q} j) p k h m) =
        let v = ends_on e w d in
        (StepSaved (entry_on e) (entry_on x) o z _ c v.0 (CallAt j) p k h (sym (S.out e.fn x.fn q o v.1) ∙ m), v.1)

    pub least_on : {e : Entry N NG} → Least N NO A NG C e → Least P PO A PG D (entry_on e) × F e.fn e.fact
    least_on (OfBase x) = let y = base_on x in (OfBase y.0, y.1)
    least_on (OfStep x y s) =
        let v = least_on x in
        let w = step_on v.1 s in
        (OfStep v.0 (least_on y).0 w.0, w.1)

    pub kind_shows : (r : M.Report) (f : M.Fn) (g₀ : M.Global) (t₀ : Fact M) (c : G.Block) (g : M.Global) (t : Fact M) → F f t
        → Shows N NO A f (C.kind f g₀ t₀) r (masked_events M f (G.events f c)) g t
        → Shows P PO A f (D.kind f g₀ t₀) r (masked_events M f (G.events f c)) g t
    kind_shows r f g₀ t₀ c g t w x =
        subst (λ k. Shows P PO A f k r (masked_events M f (G.events f c)) g t) (same f g₀ t₀) (shows_on M L O follows l n S (G.events f c) w x)
