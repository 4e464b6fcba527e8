-- An error of the program is in the list of its errors.
use Rattle.std.proofs.Common.{List, Option}
use Rattle.c_objects.specs.Objects.{Object}
use Rattle.flow_graph.specs.CPaths.Membership.{Among}
use Rattle.metal_tree.specs.MetalMachines.Machine.{Piece}
use Rattle.path_model.specs.CheckerModel.Choices.{Taken}
use Rattle.path_model.specs.CheckerModel.Happenings.{Function, Happening}
use Rattle.path_model.specs.CheckerModel.Reports.{Checker, report_at}
use Rattle.report_model.specs.declared.report.Report.{Report}
use Rattle.typed_unit.specs.Texts.{Text}
use Rattle.command.specs.CheckerReports.Errors.{AreErrors}
use Rattle.event_places.specs.Theorems.{IsErrorThere}
use Rattle.one_answer.specs.Theorems.{IsListedThere}

pub listed-there : (cs : List Checker) (ts : List Text) (reports : List Report) → AreErrors cs ts reports → (c : Checker) → Among c cs
    → (f : Function) (h : Happening) (o : Option Object) (t : Taken) (pieces : List Piece) → IsErrorThere c ts f h o t pieces → IsListedThere c f h o t pieces reports
listed-there cs ts reports are c among f h o t pieces x = record {
  token = x.token;
  there = x.there;
  listed = are.whole (report_at c h f o t x.token pieces) (record { checker = c; among = among; taken = x.error });
}
