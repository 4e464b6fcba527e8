-- An engine whose log is the least set of entries has exactly the reports of all paths, and exactly the realised
-- tuples.
-- Nothing is asked of its log but the three parts of `IsLeastLog`, and no path stands in them.
use Rattle.std.proofs.Common.{refl, subst, ◌↔◌}
use Rattle.path_theory.specs.Model.{Model}
use Rattle.path_theory.specs.Paths.{Reported}
use Rattle.path_theory.specs.Origins.{Origins, IsLocal}
use Rattle.path_theory.specs.Facts.{NoObject, Fact, Objects, IsFollowed}
use Rattle.path_theory.specs.Relevant.{IsClosed}
use Rattle.path_theory.specs.FlowGraphs.{FlowGraphs, supergraph}
use Rattle.path_theory.specs.FrameEnds.{Exits, ExitsApart}
use Rattle.path_theory.specs.Merged.{Kinds, Leads, Shown}
use Rattle.path_theory.specs.Entries.{Entry, among, Base, BaseRoot, Step, StepNext, StepCall, StepReturn, StepSaved, Least, OfBase, OfStep, IsLeastLog}
use Rattle.path_theory.proofs.MergedSound.{MergedEdge, path_edges_lead}
use Rattle.path_theory.proofs.Merged.{InSome, merged_entries, merged_reports}

module _ (M : Model) (L : Origins M) (A : Objects M) (G : FlowGraphs M) (C : Kinds M G) where
  -- a log with the base, from which nothing else follows, is saturated
  pub leads_among : (X : Entry M G → Type 0) → ((e : Entry M G) → Base M L A G C e → X e)
      → ((a b c : Entry M G) → X a → X b → Step M L A G C a b c → X c) → Leads M L A G C (among M G X) (among M G X)
  leads_among X h k = record {
    root = λ r a. h _ (BaseRoot r a);
    next = λ x c n. k _ _ _ x x (StepNext _ _ _ _ _ c n);
    call = λ x c s j a. k _ _ _ x x (StepCall _ _ _ _ _ s _ _ c j a);
    return = λ x c s j a y l b. k _ _ _ x y (StepReturn _ _ _ _ s _ c j a l b);
    saved = λ x c s j y l d. k _ _ _ x y (StepSaved _ _ _ _ s _ c j refl refl l d);
  }

  module _ (E : Exits M) (N : ExitsApart M L E G) (I : IsLocal M L) (Q : IsClosed M (supergraph M G) L A) where
    -- the entry is a path edge in the kind of frame of its context
    Fits : Entry M G → Type 0
    Fits e = MergedEdge M L A G C e.fn e.global₀ e.fact₀ e.block e.global e.fact

    base_fits : {e : Entry M G} → Base M L A G C e → Fits e
    unfolding Fits
    base_fits (BaseRoot r a) = (path_edges_lead M L A G C E N I Q).root r a

    step_fits : {a b c : Entry M G} → Fits a → Fits b → Step M L A G C a b c → Fits c
    unfolding Fits
    step_fits x y (StepNext e z i u c w n) = (path_edges_lead M L A G C E N I Q).next x w n
    step_fits x y (StepCall e z i u v s h c w j a) = (path_edges_lead M L A G C E N I Q).call x w s j a
    step_fits x y (StepReturn e z u v s c w j a l b) = (path_edges_lead M L A G C E N I Q).return x w s j a y l b
    step_fits x y (StepSaved e z o v s c w j p q l d) =
        (path_edges_lead M L A G C E N I Q).saved x w s j
        (subst (λ t. MergedEdge M L A G C z.fn z.global₀ NoObject z.block z.global t) q (subst (λ t. MergedEdge M L A G C z.fn z.global₀ t z.block z.global z.fact) p y)) l d

    least_fits : {e : Entry M G} → Least M L A G C e → Fits e
    least_fits (OfBase b) = base_fits b
    least_fits (OfStep x y s) = step_fits (least_fits x) (least_fits y) s

    module _ (X : Entry M G → Type 0) (log : IsLeastLog M L A G C X) where
      all_fit : (f : M.Fn) (g₀ : M.Global) (t₀ : Fact M) (b : G.Block) (g : M.Global) (t : Fact M)
          → among M G X f g₀ t₀ b g t → MergedEdge M L A G C f g₀ t₀ b g t
      unfolding Fits
      all_fit f g₀ t₀ b g t x = least_fits (log.only _ x)

      -- the log has the tuples that are realised, in a frame of either kind
      pub engine_entries : (f : M.Fn) (g₀ : M.Global) (t₀ : Fact M) (b : G.Block) (g : M.Global) (t : Fact M)
          → among M G X f g₀ t₀ b g t ↔ (InSome M L G f g₀ t₀ b g t × IsFollowed M A f t)
      engine_entries = merged_entries M L A G C E N I Q (among M G X) (leads_among X log.base log.closed) all_fit

      -- and its reports are those of all paths
      pub engine_reports : (r : M.Report) → Shown M L A G C (among M G X) r ↔ Reported M (supergraph M G) r
      engine_reports = merged_reports M L A G C E N I Q (among M G X) (leads_among X log.base log.closed) all_fit
