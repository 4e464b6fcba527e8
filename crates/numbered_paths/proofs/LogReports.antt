-- THE REPORTS OF THE LOG: those that its edges show are those of its entries, and so those of all paths.
use Rattle.std.proofs.Common.{◌≡◌, ◌↔◌, refl, sym, subst, ℕ, Bool, List, [], Contains}
use Rattle.numbered_engine.specs.Program.{block_of, function_at, is_own_frame}
use Rattle.numbered_engine.specs.Rules.{FollowsFrom, IsDerived}
use Rattle.numbered_engine.specs.declared.edges.NumberedEdge.{NumberedEdge}
use Rattle.numbered_engine.specs.declared.program.ProgramRows.{ProgramRows}
use Rattle.numbered_paths.proofs.BlockTables.{stand_for, tables_of}
use Rattle.numbered_paths.proofs.DerivedEdges.{derived_stands}
use Rattle.numbered_paths.proofs.LeastLog.{edges_are_entries}
use Rattle.numbered_paths.proofs.Lists.{present}
use Rattle.numbered_engine.specs.Showing.{shown_by, shown_in}
use Rattle.numbered_paths.specs.Reports.{LogShows}
use Rattle.numbered_paths.specs.Tables.{AreTables, StandsIn}
use Rattle.numbered_paths.specs.Views.{AreNumbers, Views, fact_at}
use Rattle.path_theory.proofs.Engine.{engine_entries, engine_reports}
use Rattle.path_theory.proofs.Merged.{InSome}
use Rattle.path_theory.specs.BlockEdges.{Shows, ShowsGlobal, ShowsLater, ShowsObject}
use Rattle.path_theory.specs.Entries.{Entry, among}
use Rattle.path_theory.specs.Facts.{Fact, IsFollowed, Objects}
use Rattle.path_theory.specs.FlowGraphs.{FlowGraphs, supergraph}
use Rattle.path_theory.specs.FrameEnds.{Exits, ExitsApart}
use Rattle.path_theory.specs.Merged.{Kinds, Shown}
use Rattle.path_theory.specs.Model.{Model}
use Rattle.path_theory.specs.Origins.{IsLocal, Origins}
use Rattle.path_theory.specs.Paths.{Reported}
use Rattle.path_theory.specs.Relevant.{IsClosed}
use Rattle.row_flows.specs.declared.behind.Firing.{Firing}
use Rattle.row_flows.proofs.Lists.{of_present, to_present}

-- no events show nothing
none_shown : (M : Model) (L : Origins M) (A : Objects M) (f : M.Fn) (k : Bool) (r : M.Report) (es : List M.Event) (g : M.Global) (t : Fact M) → es ≡ [] → Shows M L A f k r es g t → ⊥
none_shown M L A f k r es g t e (ShowsObject o x a s h) = cc
none_shown M L A f k r es g t e (ShowsGlobal h) = cc
none_shown M L A f k r es g t e (ShowsLater h s) = cc

module _ (M : Model) (L : Origins M) (A : Objects M) (G : FlowGraphs M) (C : Kinds M G) (V : Views M G) (N : AreNumbers M A G V) (report : ℕ → ℕ → Firing → M.Report → Type 0) (p : ProgramRows)
    (T : AreTables M L A G C V report p) (log : List NumberedEdge) (closed : (e : NumberedEdge) → FollowsFrom p log e → Contains log e) (only : (e : NumberedEdge) → Contains log e → IsDerived p e) where
  abbrev Among : M.Fn → M.Global → Fact M → G.Block → M.Global → Fact M → Type 0
  Among = among M G (StandsIn M L A G C V log)

  entry_shows : (r : M.Report) → LogShows M report p log r → Shown M L A G C Among r
  entry_shows r w =
      let e = w.edge in
      let x = w.shows in
      let s = derived_stands M L A G C V N report p T (only e w.among) in
      let f = of_present (shown_by e) (function_at p e.context.function) x.firing x.noted in
      let b = of_present (shown_in e f.0) (block_of f.0 e.block) x.firing f.2 in
      let stand = stand_for M L A G C V report p T e.context.function f.0 s.fn f.1 s.named in
      let shows = (stand.rows e.block b.0 (is_own_frame f.0 e.context.entry) b.1).reported e.tuple x.firing r s.numbered b.2 x.says in
      record {
        fn = s.fn;
        global₀ = V.global e.context.entry.global;
        fact₀ = fact_at M A G V e.context.function e.context.entry;
        block = V.block e.context.function e.block;
        global = V.global e.tuple.global;
        fact = fact_at M A G V e.context.function e.tuple;
        entry = record { edge = e; among = w.among; fn = s.fn; named = s.named; is = refl };
        shows = subst (λ k. Shows M L A s.fn k r (G.events s.fn (V.block e.context.function e.block)) (V.global e.tuple.global) (fact_at M A G V e.context.function e.tuple)) (stand.kind e.context.entry s.entered) shows;
      }

  edge_shows : (r : M.Report) → Shown M L A G C Among r → LogShows M report p log r
  edge_shows r w =
      let x = w.entry in
      let e = x.edge in
      let s = derived_stands M L A G C V N report p T (only e x.among) in
      let t = tables_of M L A G C V report p T e.context.function x.fn x.named in
      let shows = subst (λ (o : Entry M G). Shows M L A o.fn (C.kind o.fn o.global₀ o.fact₀) r (G.events o.fn o.block) o.global o.fact) (sym x.is) w.shows in
      let here = subst (λ k. Shows M L A x.fn k r (G.events x.fn (V.block e.context.function e.block)) (V.global e.tuple.global) (fact_at M A G V e.context.function e.tuple)) (sym (t.stand.kind e.context.entry s.entered)) shows in
      let k = is_own_frame t.rows e.context.entry in
      let b = present (block_of t.rows e.block)
      (λ none. none_shown M L A x.fn k r (G.events x.fn (V.block e.context.function e.block)) (V.global e.tuple.global) (fact_at M A G V e.context.function e.tuple) (t.stand.no_events e.block none) here) in
      let n = (t.stand.rows e.block b.0 k b.1).noted e.tuple r s.numbered here in
      record {
        edge = e;
        among = x.among;
        shows = record { firing = n.0; noted = to_present (shown_by e) (function_at p e.context.function) t.rows n.0 t.there (to_present (shown_in e t.rows) (block_of t.rows e.block) b.0 n.0 b.1 n.1); says = n.2 };
      }

  -- WHAT EDGES SHOW is what their entries show
  pub edges_report : (r : M.Report) → LogShows M report p log r ↔ Shown M L A G C Among r
  edges_report r = (entry_shows r, edge_shows r)

  module _ (E : Exits M) (X : ExitsApart M L E G) (I : IsLocal M L) (Q : IsClosed M (supergraph M G) L A) where
    -- THE REPORTS OF THE LOG are those of all paths
    pub log_reports : (r : M.Report) → LogShows M report p log r ↔ Reported M (supergraph M G) r
    log_reports r =
        let shown = engine_reports M L A G C E X I Q (StandsIn M L A G C V log) (edges_are_entries M L A G C V N report p T log closed only) r in
        ((λ w. shown.0 (entry_shows r w)), (λ w. edge_shows r (shown.1 w)))

    -- AND ITS ENTRIES are the tuples that are realised and followed, in a frame of either kind
    pub log_entries : (f : M.Fn) (g₀ : M.Global) (t₀ : Fact M) (b : G.Block) (g : M.Global) (t : Fact M) → Among f g₀ t₀ b g t ↔ (InSome M L G f g₀ t₀ b g t × IsFollowed M A f t)
    log_entries = engine_entries M L A G C E X I Q (StandsIn M L A G C V log) (edges_are_entries M L A G C V N report p T log closed only)
