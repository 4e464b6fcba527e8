-- Who reports.
use Rattle.std.specs.Prelude.{ℕ, List}
use Rattle.path_model.specs.CheckerModel.Reports.{Checker}
use Rattle.metal_tree.specs.declared.machine.Machine.{Machine}
use Rattle.metal_tree.specs.Whole.{machine_view}

-- THE CHECKER with this place among those of the command, this machine, these texts of names, and objects of this depth
abbrev pub checker_of : ℕ → Machine → List (List ℕ) → ℕ → Checker
checker_of number machine names depth = record { number = number; machine = machine_view machine; depth = depth; names = names }
