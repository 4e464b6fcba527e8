-- THE LINE OF STATISTICS: how many entries the logs of the checkers have, as one counter shows that goes through all of them.
use Rattle.std.specs.Prelude.{◌≡◌, ℕ, ◌+◌, ◌-◌, ◌^◌, min, Bool, true, false, List, [], ◌∷◌, ◌++◌, length, codes}
use Rattle.std.specs.Fmt.{decimal}
use Rattle.flow_graph.specs.CPaths.Building.{Graph}
use Rattle.mx_io.specs.Bytes.{Bytes}
use Rattle.path_model.specs.CheckerGraphs.Graphs.{AreGraphs}
use Rattle.path_model.specs.CheckerModel.Reports.{Checker}
use Rattle.suffix_summary.specs.Entries.{EntryIn, IsLog}
use Rattle.typed_unit.specs.Texts.{Text}

-- the count rose by the length of a log of the checker, over graphs of the program; the greatest number of 64 bits stays
pub record CountsLog (c : Checker) (ts : List Text) (before after : ℕ) : Type 0 where
  pub graphs : List Graph
  pub are_graphs : AreGraphs ts graphs
  pub log : List (EntryIn c ts graphs)
  pub is_log : IsLog c ts graphs log
  pub counted : after ≡ min (before + length log) (2 ^ 64 - 1)

-- so it did for one checker after the other
abbrev pub CountLogs : List Checker → List Text → ℕ → ℕ → Type 0
CountLogs [] ts before after = after ≡ before
CountLogs (c ∷ cs) ts before after = (between : ℕ) × CountsLog c ts before between × CountLogs cs ts between after

-- `metalcheck: entries N`
abbrev pub stats_line : ℕ → Bytes
stats_line count = codes "metalcheck: entries " ++ (decimal count ++ codes "\n")

-- the line says how many entries the logs of these checkers over these texts have, counted from 0 on
pub record IsStatsLine (cs : List Checker) (ts : List Text) (line : Bytes) : Type 0 where
  pub count : ℕ
  pub counted : ∥ CountLogs cs ts 0 count ∥₁
  pub line_is : line ≡ stats_line count

-- THE LINE BESIDE REPORTS: that of statistics where they are asked for, and else none
abbrev pub IsLineFor : Bool → List Checker → List Text → Bytes → Type 0
IsLineFor false cs ts line = line ≡ []
IsLineFor true cs ts line = IsStatsLine cs ts line
