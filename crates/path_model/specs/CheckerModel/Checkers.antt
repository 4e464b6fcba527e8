-- A CHECKER as a model of the theory of paths: it depends on its machine, the depth and the names alone.
use Rattle.std.specs.Prelude.{ℕ, Option}
use Rattle.c_objects.specs.Objects.{Object}
use Rattle.type_rules.specs.Options.{◌>?◌}
use Rattle.report_model.specs.declared.report.Report.{Report}
use Rattle.path_theory.specs.Model.{Model}
use Rattle.path_theory.specs.Origins.{Origins}
use Rattle.path_model.specs.CheckerModel.Calls.{into, out, returned}
use Rattle.metal_tree.specs.MetalMachines.Machine.{start}
use Rattle.path_model.specs.CheckerModel.Choices.{State, next_global, chosen}
use Rattle.path_model.specs.CheckerModel.Happenings.{Function, Happening, Site}
use Rattle.path_model.specs.CheckerModel.Moves.{move_of, source}
use Rattle.path_model.specs.CheckerModel.Reports.{Checker, Fires, FiresGlobal}

abbrev pub source_at : ℕ → Happening → Object → Option Object
source_at depth h = source depth (move_of h.facts depth h.event)

abbrev pub model : Checker → Model
model c = record {
  Fn = Function;
  Event = Happening;
  Site = Site;
  Obj = Object;
  Global = ℕ;
  State = State;
  Report = Report;
  start = start;
  moved = λ h m o. source_at c.depth h o >? m;
  entered = λ s m o. into c.depth s o >? m;
  returned = λ s callee caller o. returned (out c.depth s o) callee caller o;
  next_global = next_global c.machine c.depth;
  choose = chosen c.machine c.depth;
  Fires = Fires c;
  FiresGlobal = FiresGlobal c;
}

abbrev pub origins : (c : Checker) → Origins (model c)
origins c = record { source = source_at c.depth; into = into c.depth; out = out c.depth }
