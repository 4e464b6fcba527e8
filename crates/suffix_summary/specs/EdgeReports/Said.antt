-- WHAT A FIRING SAYS at the events of a block: the report of the alternative at its place, about the object with its number.
use Rattle.std.specs.Prelude.{ℕ, List, Option, slice_get}
use Rattle.c_objects.specs.Objects.{Object}
use Rattle.flow_graph.specs.CPaths.Events.{Event}
use Rattle.objects.specs.Units.{facts_in}
use Rattle.path_model.specs.CheckerModel.Choices.{scene}
use Rattle.path_model.specs.CheckerModel.Happenings.{Function, Happening}
use Rattle.path_model.specs.CheckerModel.Reports.{Checker, report_of}
use Rattle.report_model.specs.declared.report.Report.{Report}
use Rattle.row_flows.specs.Numbers.{item_numbered}
use Rattle.row_flows.specs.declared.behind.Firing.{Firing}
use Rattle.state_tuples.specs.AppliedRules.Applied.{Applied, applied_at}
use Rattle.type_rules.specs.Options.{◌>?◌}
use Rattle.typed_unit.specs.declared.typed_unit.TypedUnit.{TypedUnit}

-- an event of this unit
abbrev pub happening_at : TypedUnit → Event → Happening
happening_at u e = record { facts = facts_in u; tokens = u.unit.tokens.now; event = e }

-- the alternative at a place among those that apply at an event
abbrev pub alternative_at : Checker → Function → ℕ → Happening → Option Applied
alternative_at c f place h = slice_get (applied_at (scene c.machine c.depth h f) h.event c.machine.rules) place

-- at one event of a function in which these objects are followed
abbrev pub said_at : Checker → Function → List Object → Firing → Happening → Option Report
said_at c f followed x h = alternative_at c f x.place h >? λ a. report_of c h f (item_numbered followed x.object) a.taken

-- at the one of these that has its number
abbrev pub said : Checker → Function → List Object → List Happening → Firing → Option Report
said c f followed hs x = slice_get hs x.event >? said_at c f followed x
