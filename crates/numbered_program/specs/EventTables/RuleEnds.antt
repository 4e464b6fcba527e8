-- WHERE RULES BEGIN AND LEAD, by number.
use Rattle.std.specs.Prelude.{ℕ, List, Option, Some}
use Rattle.metal_tree.specs.MetalMachines.Machine.{Source, FromGlobal, FromObject, Target, ToGlobal, ToObject, ToUnknown}
use Rattle.numbered_program.specs.NumberedTuples.ObjectStates.{number_of_state}
use Rattle.path_model.specs.CheckerModel.Choices.{State, variable_of}
use Rattle.row_flows.specs.declared.rows.NumberedSource.{NumberedSource}
use Rattle.row_flows.specs.declared.rows.NumberedSource.TheVariants as source
use Rattle.row_flows.specs.declared.rows.NumberedTarget.{NumberedTarget}
use Rattle.row_flows.specs.declared.rows.NumberedTarget.TheVariants as target

-- an object that becomes unknown has the state of the number 0
abbrev pub numbered_source : List State → Source → NumberedSource
numbered_source states (FromGlobal q) = source.Global q
numbered_source states (FromObject v q) = source.Object (number_of_state states (v, q))

abbrev pub numbered_target : List State → Target → NumberedTarget
numbered_target states (ToGlobal q) = target.Global q
numbered_target states (ToObject v q) = target.Object (number_of_state states (v, q))
numbered_target states (ToUnknown v) = target.Object 0

-- the variable of whose object a rule is asked: that of the state in which it begins, or from a global state that of the state to which
-- it leads
abbrev pub variable_asked : Source → Target → Option ℕ
variable_asked (FromGlobal q) t = variable_of t
variable_asked (FromObject v q) t = Some v
