-- WHAT EDGES SHOW: the reports of what is noted on the way through their blocks.
use Rattle.std.specs.Prelude.{ℕ, List, Contains}
use Rattle.numbered_engine.specs.Showing.{shown_at}
use Rattle.numbered_engine.specs.declared.edges.NumberedEdge.{NumberedEdge}
use Rattle.numbered_engine.specs.declared.program.ProgramRows.{ProgramRows}
use Rattle.path_theory.specs.Model.{Model}
use Rattle.row_flows.specs.declared.behind.Firing.{Firing}

module _ (M : Model) (report : ℕ → ℕ → Firing → M.Report → Type 0) (p : ProgramRows) where
  -- AN EDGE SHOWS A REPORT: what is noted of its tuple in its block says it
  pub record EdgeShows (e : NumberedEdge) (r : M.Report) : Type 0 where
    pub firing : Firing
    pub noted : Contains (shown_at p e) firing
    pub says : report e.context.function e.block firing r

  -- some edge of the list does
  pub record LogShows (log : List NumberedEdge) (r : M.Report) : Type 0 where
    pub edge : NumberedEdge
    pub among : Contains log edge
    pub shows : EdgeShows edge r
