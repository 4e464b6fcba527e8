-- The command that the program keeps, and what it leaves of the reporters.
use Rattle.std.specs.Prelude.{◌≡◌, ℕ, MatchBool, List, [], map, slice_get, string_bytes, Option, Some, IfSome}
use Rattle.report_model.specs.declared.report.Report.{Report}
use Rattle.command.specs.Commands.{Command}
use Rattle.command.specs.declared.status.Status.{Status}
use Rattle.command.specs.Statuses.{is_of_reports}
use Rattle.command.specs.declared.words.Task.{Task}

abbrev pub command_of : Task → Command
command_of task = record { depth = task.depth; stats = task.stats; place = task.place; files = map string_bytes task.files.now }

-- the reporter at the place, if there is one, is empty
abbrev pub IsEmptiedAt : Option ℕ → List (List Report) → Type 0
IsEmptiedAt place after = IfSome place (λ k. slice_get after k ≡ Some [])

-- what holds of the reporters by what is due, where this one is chosen
abbrev pub LeavesAt : Option ℕ → List (List Report) → List (List Report) → Status → Type 0
LeavesAt place before after status = MatchBool (is_of_reports status) (IsEmptiedAt place after) (after ≡ before)
