use Rattle.std.proofs.Common.{map, take}
use Rattle.typed_unit.specs.Texts.{texts_of}
use Rattle.command.specs.CheckerReports.Checkers.{checkers_in}
use Rattle.command.specs.Counted.{CountLogs}
use Rattle.metal_tree.specs.Whole.{machine_view}
use Rattle.ordered_reports.proofs.InOrder.{HasReports}
use Rattle.command.proofs.checker_reports.entries.all_logs.Given as goal

-- the reports and the logs of the checkers that were gone through
abbrev pub invariant-loop-number : goal.invariant-loop-number
invariant-loop-number l = record {
  reports : ∥ HasReports (checkers_in (map machine_view (take l.number l.machines)) l.depth l.names) (texts_of l.program.units.items) l.all.items ∥₁;
  logs : ∥ CountLogs (checkers_in (map machine_view (take l.number l.machines)) l.depth l.names) (texts_of l.program.units.items) l.fn.steps.count l.steps.count ∥₁;
}
