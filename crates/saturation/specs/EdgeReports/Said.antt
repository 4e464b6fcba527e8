-- WHAT A RULE SAYS that is taken on the way over a block's events.
use Rattle.std.specs.Prelude.{List, Option, slice_get}
use Rattle.block_flows.specs.declared.taken_rules.Firing.{Firing}
use Rattle.block_flows.specs.Firings.{Fire, fire_in}
use Rattle.flow_graph.specs.CPaths.Events.{Event}
use Rattle.type_rules.specs.Options.{◌>?◌}
use Rattle.path_model.specs.CheckerModel.Happenings.{Function, Happening}
use Rattle.path_model.specs.CheckerModel.Reports.{Checker, report_of}
use Rattle.objects.specs.Units.{facts_in}
use Rattle.report_model.specs.declared.report.Report.{Report}
use Rattle.typed_unit.specs.declared.typed_unit.TypedUnit.{TypedUnit}

-- an event of this unit
abbrev pub happening_at : TypedUnit → Event → Happening
happening_at u e = record { facts = facts_in u; tokens = u.unit.tokens.now; event = e }

-- the report of a rule that is taken at one of these events, by the event's number
abbrev pub said : Checker → Function → List Happening → Fire → Option Report
said c f hs x = slice_get hs x.event >? λ h. report_of c h f x.object x.taken

abbrev pub said_by : Checker → Function → List Happening → Firing → Option Report
said_by c f hs x = said c f hs (fire_in x)
