-- Whether a mask is strict or loose, a least log of entries under it shows exactly the reports of all paths: its entries are of objects
-- that are followed, and of these both kinds of masks say the same.
-- The laws of exits are asked of origins that hand back some objects alone, which has to be all that are followed.
use Rattle.std.proofs.Common.{◌≡◌, ◌↔◌, Bool, true, false, cond, IsTrue, Option, Some, None, refl, sym, ap, true≢false}
use Rattle.path_theory.specs.Model.{Model}
use Rattle.path_theory.specs.Paths.{Reported}
use Rattle.path_theory.specs.Origins.{Origins, IsLocal}
use Rattle.path_theory.specs.Facts.{Fact, IsFollowed}
use Rattle.path_theory.specs.Relevant.{IsClosed}
use Rattle.path_theory.specs.FlowGraphs.{FlowGraphs, Head, supergraph}
use Rattle.path_theory.specs.FrameEnds.{Exits, ExitsApart}
use Rattle.path_theory.specs.Merged.{Kinds, Shown}
use Rattle.path_theory.specs.Entries.{Entry, among, IsLeastLog}
use Rattle.path_theory.proofs.Engine.{engine_reports, engine_entries}
use Rattle.path_theory.proofs.Merged.{InSome}
use Rattle.masked_paths.specs.Enough.{IsEnough}
use Rattle.masked_paths.specs.Masked.{Mask, kept, within, masked, masked_origins, masked_graphs}
use Rattle.masked_paths.specs.StrictFlows.Among.{if_followed}
use Rattle.masked_paths.proofs.MaskedLaws.{masked_local, graphs_closed}
use Rattle.masked_paths.proofs.MaskedGraphs.{graph_reports, graph_realised}
use Rattle.masked_paths.proofs.MaskedEnds.{masked_exits, masked_apart}
use Rattle.masked_paths.proofs.MaskedEntries.{followed_in, followed_out}
use Rattle.masked_paths.proofs.SameReports.{same_reports}
use Rattle.masked_paths.proofs.SameRealised.{same_realised}
use Rattle.suffix_summary.proofs.HandedBack.{handing}
use Rattle.suffix_summary.proofs.SameFlows.{SameOrigins, turned}
use Rattle.suffix_summary.proofs.SameEdges.{realised_on, reported_on}
use Rattle.suffix_summary.proofs.SameSteps.{kinds_on, back_from}
use Rattle.suffix_summary.proofs.SameLogs.{least_log, shown_on, shown_back}

-- of an object that is followed both kinds of masks say the same
same_within : {O : Type 0} (l n t : Bool) (a : O → Bool) (z : Option O) → t ≡ true → within l t a z ≡ within n t a z
same_within l n true a None d = refl
same_within l n true a (Some b) d = refl
same_within l n false a z d = cc

same_kept : {O : Type 0} (h t : Bool) (o : O) → (t ≡ true → h ≡ true) → (a : O → Bool) → a o ≡ t
    → cond t (Some o) None ≡ within true true a (cond h (Some o) None)
same_kept true t o only a e = ap (λ x. cond x (Some o) None) (sym e)
same_kept false true o only a e = absurd (true≢false (sym (only refl)))
same_kept false false o only a e = refl

same_out : {O : Type 0} (l t : Bool) (a hands : O → Bool) (only : (o : O) → a o ≡ true → hands o ≡ true) (z : Option O) → t ≡ true
    → within l t a z ≡ within true t a (if_followed hands z)
same_out l true a hands only None d = refl
same_out l true a hands only (Some o) d = same_kept (hands o) (a o) o (only o) a refl
same_out l false a hands only z d = cc

module _ (M : Model) (L : Origins M) (a : Mask M) (hands : M.Obj → Bool) (only : (f : M.Fn) (o : M.Obj) → IsTrue (a.follows f o) → IsTrue (hands o)) where
  abbrev pub cut : Origins M
  cut = handing M hands L

  abbrev pub loosened : Mask M
  loosened = record { follows = a.follows; loose = true }

  pub agree : SameOrigins M L cut a.follows a.loose true
  agree = record {
    source = λ f e o i. same_within a.loose true (a.follows f o) (a.follows f) (L.source e o) i;
    into = λ f h s c i. same_within a.loose true (a.follows h c) (a.follows f) (L.into s c) i;
    out = λ f h s o i. same_out a.loose (a.follows f o) (a.follows h) hands (only h) (L.out s o) i;
  }

module _ (M : Model) (L : Origins M) (I : IsLocal M L) (a : Mask M) (hands : M.Obj → Bool) (only : (f : M.Fn) (o : M.Obj) → IsTrue (a.follows f o) → IsTrue (hands o)) (G : FlowGraphs M)
    (C : Kinds (masked M L a) (masked_graphs M L a G)) (F : Exits M) (W : ExitsApart M (handing M hands L) F G) (X : Entry (masked M L a) (masked_graphs M L a G) → Type 0)
    (least : IsLeastLog (masked M L a) (masked_origins M L a) (kept M a) (masked_graphs M L a G) C X) where
  abbrev O : Origins M
  O = handing M hands L

  abbrev b : Mask M
  b = loosened M L a hands only

  abbrev S : SameOrigins M L O a.follows a.loose true
  S = agree M L a hands only

  abbrev T : SameOrigins M O L a.follows true a.loose
  T = turned M L O a.follows a.loose true S

  abbrev D : Kinds (masked M O b) (masked_graphs M O b G)
  D = kinds_on M L O a.follows a.loose true S G C

  abbrev Y : Entry (masked M O b) (masked_graphs M O b G) → Type 0
  Y = back_from M L O a.follows a.loose true S G X

  -- THE REPORTS of the log
  pub strict_log_reports : IsEnough M (supergraph M G) L (kept M a) → (r : M.Report)
      → Shown (masked M L a) (masked_origins M L a) (kept M a) (masked_graphs M L a G) C (among (masked M L a) (masked_graphs M L a G) X) r
      ↔ Reported M (supergraph M G) r
  strict_log_reports enough r =
      let x = engine_reports (masked M O b) (masked_origins M O b) (kept M b) (masked_graphs M O b G) D (masked_exits M O b F) (masked_apart M O b G F W refl) (masked_local M O b) (graphs_closed M O b G) Y (least_log M L O a.follows a.loose true S G C X least) r in
      let y = graph_reports M O b G r in
      let z = same_reports M L I a (supergraph M G) enough r in (
        (λ w. z.0 (reported_on M O L a.follows true a.loose T (supergraph M G) r (y.0 (x.0 (shown_on M L O a.follows a.loose true S G C X least r w))))),
        (λ w. shown_back M L O a.follows a.loose true S G C X least r (x.1 (y.1 (reported_on M L O a.follows a.loose true S (supergraph M G) r (z.1 w))))),
      )

  -- AND ITS ENTRIES, where the family is closed: the realised tuples of what is followed, in a frame of either kind
  pub strict_log_entries : IsClosed M (supergraph M G) L (kept M a)
      → (f : M.Fn) (g₀ : M.Global) (t₀ : Fact M) (c : G.Block) (g : M.Global) (t : Fact M)
      → among (masked M L a) (masked_graphs M L a G) X f g₀ t₀ c g t ↔ (InSome M L G f g₀ t₀ c g t × IsFollowed M (kept M a) f t)
  strict_log_entries Q f g₀ t₀ c g t =
      let x = engine_entries (masked M O b) (masked_origins M O b) (kept M b) (masked_graphs M O b G) D (masked_exits M O b F) (masked_apart M O b G F W refl) (masked_local M O b) (graphs_closed M O b G) Y (least_log M L O a.follows a.loose true S G C X least) f g₀ t₀ c g t in (
        (λ w.
            let v = x.0 w in
            let i = followed_out M O b f t v.1 in
            let u = realised_on M O L a.follows true a.loose T (supergraph M G) t i ((graph_realised M O b G f v.0.0 g₀ t₀ c g t).0 v.0.1) in
            ((v.0.0, (same_realised M (supergraph M G) L I a Q f v.0.0 g₀ t₀ (Head c) g t i).0 u), i)),
        (λ w.
            let u = (same_realised M (supergraph M G) L I a Q f w.0.0 g₀ t₀ (Head c) g t w.1).1 w.0.1 in
            let v = (graph_realised M O b G f w.0.0 g₀ t₀ c g t).1 (realised_on M L O a.follows a.loose true S (supergraph M G) t w.1 u) in
            x.1 ((w.0.0, v), followed_in M O b f t w.1)),
      )
