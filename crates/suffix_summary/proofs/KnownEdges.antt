-- The log of rows that stand for a program: what its edges show, and the global states that they meet.
use Rattle.std.proofs.Common.{◌≡◌, ◌↔◌, ◌∙◌, ℕ, Bool, false, List, [], Contains, Option, None, Some, slice_get, refl, ap}
use Rattle.std.proofs.Math.Logic.{∥∥₁_map, ∥∥₁_elim}
use Rattle.std.specs.Option.{option_map_or}
use Rattle.block_flows.specs.FollowedLists.{is_followed, mask_in}
use Rattle.block_flows.specs.TupleFlows.Facts.{is_in}
use Rattle.c_objects.specs.Objects.{Object, is_object}
use Rattle.flow_graph.specs.CPaths.Building.{Graph}
use Rattle.function_tables.specs.EngineTables.Known.{AreKnown, checker_in, texts_in, graphs_in, objects_in}
use Rattle.function_tables.specs.declared.engine_tables.tables.Tables.{Tables}
use Rattle.least_set.specs.Logs.{IsExactly, SomeGives}
use Rattle.masked_paths.specs.Met.{CoversBlocks}
use Rattle.numbered_engine.specs.Program as rows
use Rattle.numbered_engine.specs.Rules.{FollowsFrom, IsDerived}
use Rattle.numbered_engine.specs.declared.edges.NumberedEdge.{NumberedEdge}
use Rattle.numbered_engine.specs.declared.program.FunctionRows.{FunctionRows}
use Rattle.numbered_engine.specs.declared.program.ProgramRows.{ProgramRows}
use Rattle.numbered_paths.proofs.BlockTables.{tables_of}
use Rattle.numbered_paths.proofs.DerivedEdges.{derived_stands}
use Rattle.numbered_paths.proofs.LeastLog.{edges_are_entries}
use Rattle.numbered_paths.proofs.LogReports.{edges_report}
use Rattle.numbered_paths.specs.Reports.{LogShows}
use Rattle.numbered_paths.specs.Tables.{StandsIn}
use Rattle.numbered_paths.specs.Views.{Views}
use Rattle.numbered_program.specs.Views.{SaysIn, views}
use Rattle.block_flows.specs.Masks.{graphs_under, model_under, objects_under, origins_under}
use Rattle.block_flows.specs.Masks.{AreEnough}
use Rattle.path_model.proofs.CheckerGraphs.GraphTraces.{graphs_report}
use Rattle.path_model.specs.CheckerGraphs.Graphs.{flow_graphs, number_of}
use Rattle.path_model.specs.CheckerModel.Checkers.{model, origins}
use Rattle.path_model.specs.CheckerModel.Choices.{State}
use Rattle.path_model.specs.CheckerModel.Happenings.{Function}
use Rattle.path_model.specs.CheckerModel.Reports.{Checker}
use Rattle.path_model.specs.CheckerPrograms.Paths.{program}
use Rattle.path_model.specs.CheckerPrograms.Texts.{functions_in}
use Rattle.path_theory.specs.Entries.{Entry, IsLeastLog}
use Rattle.path_theory.specs.FlowGraphs.{FlowGraphs}
use Rattle.path_theory.specs.Merged.{Kinds}
use Rattle.path_theory.specs.Model.{Model}
use Rattle.path_theory.specs.Origins.{Origins}
use Rattle.path_theory.specs.Paths.{Reported}
use Rattle.report_model.specs.declared.report.Report.{Report}
use Rattle.row_flows.specs.declared.behind.Firing.{Firing}
use Rattle.suffix_summary.proofs.ExitsOfCheckers.{exits, exits_apart}
use Rattle.suffix_summary.proofs.HandedBack.{handing}
use Rattle.suffix_summary.proofs.LogsOfCheckers.{checker_log_reports}
use Rattle.suffix_summary.proofs.MetStates.EmptyEdges.{Met, met}
use Rattle.suffix_summary.specs.EdgeReports.Shown.{ShowsIn}
use Rattle.known_objects.specs.FollowedSets.{HaveNone}
use Rattle.suffix_summary.specs.MetStates.{StandsAt, stands_in}
use Rattle.suffix_summary.specs.StandingRows.{AreStanding}
use Rattle.type_rules.specs.Options.{if_there, ◌>?◌}
use Rattle.typed_unit.specs.Texts.{Text}

module _ (t : Tables) (p : ProgramRows) (log : List NumberedEdge) (closed : (e : NumberedEdge) → FollowsFrom p log e → Contains log e) (only : (e : NumberedEdge) → Contains log e → IsDerived p e)
    (known : AreKnown t) (standing : AreStanding t p) where
  abbrev c : Checker
  c = checker_in t

  abbrev ts : List Text
  ts = texts_in t

  abbrev gs : List Graph
  gs = graphs_in t

  abbrev lists : List (List Object)
  lists = objects_in t

  abbrev N : Model
  N = model_under c ts lists

  abbrev NL : Origins N
  NL = origins_under c ts lists

  abbrev NG : FlowGraphs N
  NG = graphs_under c ts gs lists

  abbrev kinds : Kinds N NG
  kinds = standing.stand.kinds

  abbrev V : Views N NG
  V = views c ts gs lists standing.states

  abbrev says : ℕ → ℕ → Firing → Report → Type 0
  says = SaysIn c ts gs lists standing.states

  abbrev Among : Entry N NG → Type 0
  Among = StandsIn N NL (objects_under c ts lists) NG kinds V log

  least : IsLeastLog N NL (objects_under c ts lists) NG kinds Among
  least = edges_are_entries N NL (objects_under c ts lists) NG kinds V standing.stand.numbers says p standing.stand.tables log closed only

  -- ---- THE REPORTS that the edges show are those of the program

  shown-reported : AreEnough c ts gs lists → (r : Report) → LogShows N says p log r ↔ Reported (model c) (program c ts) r
  shown-reported enough r =
      let x = edges_report N NL (objects_under c ts lists) NG kinds V standing.stand.numbers says p standing.stand.tables log closed only r in
      let y = checker_log_reports c ts gs known.tables.graphs lists known.plain kinds Among least enough r in
      let z = graphs_report ts gs known.tables.graphs c r in
      ((λ w. z.0 (y.0 (x.0 w))), (λ w. x.1 (y.1 (z.1 w))))

  to-log : (r : Report) → SomeGives (ShowsIn t standing.states p) log r → LogShows N says p log r
  to-log r s = record { edge = s.0; among = s.1; shows = s.2 }

  of-log : (r : Report) → LogShows N says p log r → SomeGives (ShowsIn t standing.states p) log r
  of-log r w = (w.edge, w.among, w.shows)

  pub listed-reported : AreEnough c ts gs lists → (list : List Report) → IsExactly list (SomeGives (ShowsIn t standing.states p) log)
      → (r : Report) → Contains list r ↔ Reported (model c) (program c ts) r
  listed-reported enough list exact r =
      let x = shown-reported enough r in
      ((λ m. x.0 (to-log r (exact.0 r m))), (λ w. exact.1 r (of-log r (x.1 w))))

  -- ---- THE GLOBAL STATES that they meet are those of all paths, where no object is followed

  module _ (none : HaveNone lists) where
    follows-none : (f : Function) (o : Object) → is_followed ts lists f o ≡ false
    follows-none f o = by (number_of (functions_in ts) f)
      where
        in-none : (q : Option (List Object)) → ((os : List Object) → q ≡ Some os → os ≡ []) → if_there q false (λ objects. is_in objects o) ≡ false
        in-none None h = refl
        in-none (Some os) h = ap (λ (l : List Object). is_in l o) (h os refl)

        by : (q : Option ℕ) → if_there (q >? slice_get lists) false (λ objects. is_in objects o) ≡ false
        by None = refl
        by (Some n) = in-none (slice_get lists n) (λ os e. none n os e)

    abbrev MetHere : Function → Bool → ℕ → ℕ → Type 0
    MetHere = Met (model c) (origins c) (mask_in c ts lists) refl follows-none (flow_graphs c ts gs) (handing (model c) (is_object c.depth) (origins c)) (exits c) (exits_apart c ts gs known.tables.graphs) kinds Among least

    -- the edge of the entry of a path
    stands-there : (f : Function) (k : Bool) (b g : ℕ) → MetHere f k b g → StandsAt ts gs p log f k b g
    stands-there f k b g w =
        let x = w.there in
        let e = x.edge in
        let h = tables_of N NL (objects_under c ts lists) NG kinds V says p standing.stand.tables e.context.function x.fn x.named in
        let d = derived_stands N NL (objects_under c ts lists) NG kinds V standing.stand.numbers says p standing.stand.tables (only e x.among) in
        let own = ap (λ (o : Option FunctionRows). option_map_or (λ (r : FunctionRows). rows.is_own_frame r e.context.entry) o false) h.there ∙ h.stand.kind e.context.entry d.entered in
        record {
          edge = e;
          among = x.among;
          named = x.named ∙ ap (λ (y : Entry N NG). Some y.fn) x.is;
          kind = λ q. own ∙ ap (λ (y : Entry N NG). kinds.kind y.fn y.global₀ y.fact₀) x.is ∙ w.kind q;
          block = ap (λ (y : Entry N NG). y.block) x.is;
          global = ap (λ (y : Entry N NG). y.global) x.is;
        }

    pub edges-meet : CoversBlocks (model c) (flow_graphs c ts gs) (stands_in c ts gs p log)
    edges-meet = record {
      stands = λ {f = f} {k = k} {b = b} P.
          stands-there f k b _
          (met (model c) (origins c) (mask_in c ts lists) refl follows-none (flow_graphs c ts gs) (handing (model c) (is_object c.depth) (origins c)) (exits c) (exits_apart c ts gs known.tables.graphs) kinds Among least P);
    }

-- ---- all of it known somehow

pub all-reported : (t : Tables) (p : ProgramRows) (log : List NumberedEdge) (list : List Report) → ((e : NumberedEdge) → FollowsFrom p log e → Contains log e) → ((e : NumberedEdge) → Contains log e → IsDerived p e)
    → ∥ AreKnown t ∥₁ → (AreKnown t → ∥ AreStanding t p ∥₁) → ∥ AreEnough (checker_in t) (texts_in t) (graphs_in t) (objects_in t) ∥₁
    → ((states : List State) → AreKnown t → IsExactly list (SomeGives (ShowsIn t states p) log))
    → ∥ ((r : Report) → Contains list r ↔ Reported (model (checker_in t)) (program (checker_in t) (texts_in t)) r) ∥₁
all-reported t p log list closed only known standing enough exact =
    ∥∥₁_elim known squash₁ (λ k. ∥∥₁_elim (standing k) squash₁ (λ s. ∥∥₁_map enough (λ e. listed-reported t p log closed only k s e list (exact s.states k))))
