-- An engine that follows no object meets the global states of all paths: its log has an entry at the first place of each block to which a path
-- comes, with the path's global state, and in the context of a root's own frame where the path is in one.
-- Under a mask that follows nothing no call hands anything back, so the laws of exits hold whichever origins they are asked of.
use Rattle.std.proofs.Common.{◌≡◌, ◌∙◌, Bool, true, false, cond, Option, None, Some, List, [], ◌∷◌, inl, inr, refl, sym, ap}
use Rattle.masked_paths.specs.Masked.{EventIn, Mask, SiteIn, alike, CallAt, CallIn, kept, masked, masked_events, masked_graphs, masked_origins, masked_supergraph, out_in, within}
use Rattle.masked_paths.proofs.MaskedEnds.{masked_exits}
use Rattle.masked_paths.proofs.MaskedGraphs.{graph_realised}
use Rattle.masked_paths.proofs.MaskedLaws.{graphs_closed, masked_local}
use Rattle.masked_paths.proofs.MaskedRuns.{frames_in, run_in}
use Rattle.masked_paths.proofs.SameGlobals.{same_global_behind}
use Rattle.path_theory.proofs.Engine.{leads_among}
use Rattle.path_theory.proofs.Entries.{path_edge}
use Rattle.path_theory.proofs.MergedComplete.{merged_least, of_kind}
use Rattle.path_theory.proofs.Splitting.{split}
use Rattle.path_theory.specs.Entries.{Entry, IsLeastLog, among}
use Rattle.path_theory.specs.Facts.{NoObject}
use Rattle.path_theory.specs.FlowGraphs.{FlowGraphs, Head, supergraph}
use Rattle.path_theory.specs.FrameEnds.{EachStays, Exits, ExitsApart}
use Rattle.path_theory.specs.Merged.{Kinds}
use Rattle.path_theory.specs.Model.{Model}
use Rattle.path_theory.specs.OpenFrames.{at_entry}
use Rattle.path_theory.specs.Origins.{Origins}
use Rattle.path_theory.specs.Callers.{Callers}
use Rattle.path_theory.specs.Paths.{Path, after}
use Rattle.path_theory.specs.Realised.{Realised}
use Rattle.path_theory.specs.Supergraph.{Supergraph}

unlike : (loose own other : Bool) → loose ≡ false → own ≡ false → alike loose own other ≡ false
unlike true own other strict none = cc
unlike false true other strict none = cc
unlike false false other strict none = refl

module _ (M : Model) (L : Origins M) (a : Mask M) (strict : a.loose ≡ false) (none : (f : M.Fn) (o : M.Obj) → a.follows f o ≡ false) (G : FlowGraphs M) where
  abbrev N : Model
  N = masked M L a

  abbrev NL : Origins N
  NL = masked_origins M L a

  abbrev NG : FlowGraphs N
  NG = masked_graphs M L a G

  abbrev J : Supergraph N
  J = masked_supergraph M L a (supergraph M G)

  -- ---- the laws of exits

  nothing-out : (s : SiteIn M.Fn M.Site) (o d : M.Obj) → out_in M L a s o ≡ Some d → ⊥
  nothing-out s o d e = by (L.out s.site o) e
    where
      by : (z : Option M.Obj) → within a.loose (a.follows s.caller o) (a.follows s.callee) z ≡ Some d → ⊥
      by None h = cc
      by (Some b) h =
          let out : None ≡ Some d =
          sym (ap (λ t. cond t (Some b) None) (unlike a.loose (a.follows s.caller o) (a.follows s.callee b) strict (none s.caller o))) ∙ h in
          cc

  module _ (O : Origins M) (E : Exits M) (W : ExitsApart M O E G) where
    stay-in : (f : M.Fn) (es : List M.Event) → EachStays E es → EachStays (masked_exits M L a E) (masked_events M f es)
    stay-in f [] i = tt
    stay-in f (e ∷ es) i = (i.0, stay-in f es i.1)

    call-stays : {f h : M.Fn} {s : SiteIn M.Fn M.Site} {b c : G.Block} → CallIn M L a G f b s h c → EachStays (masked_exits M L a E) (masked_events M f (G.events f b))
    call-stays {f = f} {b = b} (CallAt j) = stay-in f (G.events f b) (W.call j)

    unmoved-in : {f h : M.Fn} {s : SiteIn M.Fn M.Site} {b c : G.Block} → CallIn M L a G f b s h c → (e : EventIn M.Fn M.Event) → E.IsExit e.event → (o d : M.Obj) → NL.out s o ≡ Some d
        → NL.source e d ≡ Some d
    unmoved-in {s = s} j e i o d w = absurd (nothing-out s o d w)

    kept-in : {f h : M.Fn} {s : SiteIn M.Fn M.Site} {b c : G.Block} → CallIn M L a G f b s h c → (e : EventIn M.Fn M.Event) → E.IsExit e.event → (g : M.Global) (o d : M.Obj) → NL.out s o ≡ Some d
        → (x : Option M.State) → N.choose e h false g d x ≡ x
    kept-in {s = s} j e i g o d w x = absurd (nothing-out s o d w)

    pub apart-bare : ExitsApart N NL (masked_exits M L a E) NG
    apart-bare = record {
      next = λ {f = f} {b = b} n. stay-in f (G.events f b) (W.next n);
      call = call-stays;
      last = λ {f = f} n. let w = W.last n in (record { fn = f; event = w.0 }, w.1, ap (masked_events M f) w.2);
      unmoved = unmoved-in;
      kept = kept-in;
      either = λ f b. elim (W.either f b) [ inl w ↦ inl (stay-in f (G.events f b) w) | inr w ↦ inr w ];
    }

    -- ---- the log has an entry for each path

    -- a path to the first place of a block, as a tuple without object
    record Bare (f : M.Fn) (k : Bool) (b : G.Block) (g : M.Global) : Type 0 where
      entry : M.Global
      tuple : Realised N J NL f k entry NoObject (Head b) g NoObject

    bare : {f : M.Fn} {k : Bool} {b : G.Block} {c : Callers M (supergraph M G)} (P : Path M (supergraph M G) f k (Head b) c) → Bare f k b (after M (supergraph M G) P).global
    bare P =
        let s = split M (supergraph M G) P in
        record {
          entry = (at_entry N J (frames_in M L a (supergraph M G) s.opened)).global;
          tuple = record {
            below = _;
            opened = frames_in M L a (supergraph M G) s.opened;
            run = run_in M L a (supergraph M G) s.run;
            entry = refl;
            global = same_global_behind M L a (supergraph M G) s.opened s.run ∙ ap (λ n. n.global) (sym s.state);
            tracked = refl;
          };
        }

    module _ (C : Kinds N NG) (X : Entry N NG → Type 0) (log : IsLeastLog N NL (kept M a) NG C X) where
      pub record Met (f : M.Fn) (k : Bool) (b : G.Block) (g : M.Global) : Type 0 where
        pub entry : M.Global
        pub there : X (record { fn = f; global₀ = entry; fact₀ = NoObject; block = b; global = g; fact = NoObject })
        pub kind : k ≡ true → C.kind f entry NoObject ≡ true

      pub met : {f : M.Fn} {k : Bool} {b : G.Block} {c : Callers M (supergraph M G)} (P : Path M (supergraph M G) f k (Head b) c) → Met f k b (after M (supergraph M G) P).global
      met {f = f} {k = k} {b = b} P =
          let w = bare P in
          let edge = path_edge N (supergraph N NG) NL (masked_local M L a) (kept M a) (graphs_closed M L a G) NoObject
          ((graph_realised M L a G f k w.entry NoObject b (after M (supergraph M G) P).global NoObject).1 w.tuple) tt in
          record {
            entry = w.entry;
            there = merged_least N NL (kept M a) NG C (masked_exits M L a E) apart-bare (among N NG X) (leads_among N NL (kept M a) NG C X log.base log.closed) edge;
            kind = of_kind N NL (kept M a) NG C (masked_exits M L a E) apart-bare edge;
          }
