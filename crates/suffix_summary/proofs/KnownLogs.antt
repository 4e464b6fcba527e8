-- What an analysis knows of its tables where they follow all relevant objects: they are known, and so are its reports and its log.
use Rattle.std.proofs.Common.{◌≡◌, [], ◌∷◌, List, map, Result, Ok, Contains, refl, sym, ap, subst, ◌∙◌, ℕ}
use Rattle.std.proofs.Math.Logic.{∥∥₁_elim, ∥∥₁_map₂}
use Rattle.std.specs.Prelude.{AllPairs}
use Rattle.std.specs.declared.cmp.Ordering.TheVariants.{Less}
use Rattle.block_flows.specs.Masks.{AreEnough}
use Rattle.c_objects.specs.Objects.{Object}
use Rattle.call_graph.specs.declared.programs.functions.FnId.{FnId}
use Rattle.flow_graph.specs.CPaths.Building.{Graph}
use Rattle.flow_graph.specs.Seen.{graph_in}
use Rattle.function_tables.proofs.EngineTables.Places.{apart-in}
use Rattle.function_tables.specs.EngineTables.Known.{AreKnown, checker_in, texts_in, graphs_in, objects_in}
use Rattle.function_tables.specs.Tables.{AreTables}
use Rattle.function_tables.specs.declared.engine_tables.tables.Tables.{Tables}
use Rattle.function_tables.specs.declared.table.FunctionTable.{FunctionTable}
use Rattle.known_objects.proofs.RelevantSets.{relevant-enough}
use Rattle.known_objects.specs.RelevantSets.{AreRelevant}
use Rattle.least_set.specs.Logs.{IsExactly, IsOnce, SomeGives}
use Rattle.numbered_engine.specs.Rules.{FollowsFrom, IsDerived}
use Rattle.numbered_engine.specs.declared.edges.NumberedEdge.{NumberedEdge}
use Rattle.numbered_engine.specs.declared.program.ProgramRows.{ProgramRows}
use Rattle.ordered_reports.proofs.Agreeing.{alone}
use Rattle.ordered_reports.proofs.InOrder.{HasReportsOf, in-order, of-one}
use Rattle.ordered_reports.proofs.OwnFiles.{own-files}
use Rattle.path_model.specs.CheckerModel.Choices.{State}
use Rattle.path_model.specs.CheckerModel.Reports.{Checker}
use Rattle.path_model.specs.CheckerPrograms.Reported.{AreReports}
use Rattle.report_model.specs.Order.{report_cmp}
use Rattle.report_model.specs.ReportLists.Repeats.{AgreeWhereEqual}
use Rattle.report_model.specs.declared.report.Report.{Report}
use Rattle.root_functions.specs.Roots.{AreRoots}
use Rattle.suffix_summary.proofs.AllKnown.{all-known}
use Rattle.suffix_summary.proofs.KnownEdges.{all-reported}
use Rattle.suffix_summary.specs.EdgeReports.Shown.{ShowsIn}
use Rattle.suffix_summary.specs.StandingRows.{AreStanding}
use Rattle.typed_unit.specs.Texts.{Text}
use Rattle.suffix_summary.proofs.Readings.{read-as-log-known}
use Rattle.suffix_summary.specs.Reading.{ReadAsLog}

-- THE SETS have the relevant objects, as whoever gathers them says it of tables that are lent
pub relevant-known : (c : Checker) (ts : List Text) (functions lent : List FunctionTable) (sets : List (List Object)) → ∥ AreTables c.machine c.depth ts functions ∥₁ → lent ≡ functions
    → ((d : Checker) → d.depth ≡ c.depth → AreTables d.machine d.depth ts lent → ∥ AreRelevant d ts sets ∥₁) → ∥ AreRelevant c ts sets ∥₁
relevant-known c ts functions lent sets tables same gathered = ∥∥₁_elim tables squash₁ (λ a. gathered c refl (subst (AreTables c.machine c.depth ts) (sym same) a))

-- the tables for which rows are said to stand
abbrev pub tables-of : {t : Tables} {p : ProgramRows} → (AreKnown t → ∥ AreStanding t p ∥₁) → Tables
tables-of {t} s = t

module _ (t : Tables) where
  abbrev c : Checker
  c = checker_in t

  abbrev ts : List Text
  ts = texts_in t

  -- THE TABLES are known
  pub tables-known : (functions : List FunctionTable) (roots : List FnId) (sets : List (List Object))
      → t.functions.now ≡ functions → t.roots.now ≡ roots → objects_in t ≡ sets
      → ∥ AreTables c.machine c.depth ts functions ∥₁ → ∥ AreRoots c.machine ts (map (λ (f : FnId). f.number) roots) ∥₁ → ∥ AreRelevant c ts sets ∥₁ → ∥ AreKnown t ∥₁
  tables-known functions roots sets fs rs os tables found relevant =
      ∥∥₁_elim relevant squash₁ (λ r.
      let own = subst (AreRelevant c ts) (sym os) r in
      all-known t functions roots fs rs tables found own.count own.plain)

  module _ (rows : ProgramRows) (standing : AreKnown t → ∥ AreStanding t rows ∥₁) (known : ∥ AreKnown t ∥₁) (sets : List (List Object)) (os : objects_in t ≡ sets) (relevant : ∥ AreRelevant c ts sets ∥₁)
      (log : List NumberedEdge) (before : ProgramRows) (same : before ≡ rows)
      (closed : (e : NumberedEdge) → FollowsFrom before log e → Contains log e) (only : (e : NumberedEdge) → Contains log e → IsDerived before e) where
    standing-before : AreKnown t → ∥ AreStanding t before ∥₁
    standing-before = subst (λ (p : ProgramRows). AreKnown t → ∥ AreStanding t p ∥₁) (sym same) standing

    relevant-here : ∥ AreRelevant c ts (objects_in t) ∥₁
    relevant-here = subst (λ (l : List (List Object)). ∥ AreRelevant c ts l ∥₁) (sym os) relevant

    enough : ∥ AreEnough c ts (graphs_in t) (objects_in t) ∥₁
    enough = ∥∥₁_map₂ known relevant-here (λ k r. relevant-enough c ts (graphs_in t) k.tables.graphs (apart-in t) (objects_in t) r)

    -- THE LOG reads as the checker's, over these graphs, which are those of the tables
    pub log-known : (functions : List FunctionTable) (gs : List Graph) → t.functions.now ≡ functions → map (λ (f : FunctionTable). graph_in f.graph.now) functions ≡ gs → IsOnce log → ∥ ReadAsLog c ts gs sets log ∥₁
    log-known functions gs fs are once =
        ∥∥₁_elim known squash₁ (λ k.
        ∥∥₁_map₂ (standing-before k) relevant-here (λ s r.
        subst (λ (l : List (List Object)). ReadAsLog c ts gs l log) os
        (subst (λ (l : List Graph). ReadAsLog c ts l (objects_in t) log) (ap (map (λ (f : FunctionTable). graph_in f.graph.now)) fs ∙ are)
        (read-as-log-known t before log closed only once k s r))))

    -- what the edges show, behind the engine's work
    module _ (after : ProgramRows) (still : after ≡ before) (shown : List Report)
        (exact : (states : List State) → AreKnown t → IsExactly shown (SomeGives (ShowsIn t states after) log)) where
      shown-known : ∥ HasReportsOf c ts shown ∥₁
      shown-known =
          all-reported t before log shown closed only known standing-before enough (λ states k.
          subst (λ (p : ProgramRows). IsExactly shown (SomeGives (ShowsIn t states p) log)) still (exact states k))

      -- THE REPORTS, in order
      pub reports-known : (list : List Report) → AllPairs (λ a b. report_cmp a b ≡ Less) list → ((r : Report) → Contains list r → Contains shown r)
          → (AgreeWhereEqual report_cmp shown → (r : Report) → Contains shown r → Contains list r) → ∥ AreReports (c ∷ []) ts list ∥₁
      reports-known list ascending real whole =
          let made : Result (List Report) ℕ = Ok list in
          in-order ts (c ∷ []) (alone c) made (λ l. l) shown (of-one ts c shown shown-known) (own-files t.program.now.units.items t.program.now.numbered) ascending real whole
