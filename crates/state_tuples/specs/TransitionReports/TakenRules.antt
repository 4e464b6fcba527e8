-- What reports are of, as the definitions have it: a checker, what happens in a unit, and a rule that is taken.
use Rattle.std.specs.Prelude.{◌≡◌, ℕ, Option, Some}
use Rattle.std.specs.Option.{option_map}
use Rattle.c_objects.specs.Objects.{Object}
use Rattle.c_objects.specs.Text.{text_of, object_text}
use Rattle.c_tree.specs.declared.token.Token.{Token}
use Rattle.path_model.specs.CheckerModel.Choices.{Taken}
use Rattle.path_model.specs.CheckerModel.Reports as reports
use Rattle.hole_matching.specs.Matching.{Binding}
use Rattle.hole_matcher.specs.HoleMessages.RuleMessages.{rule_message}
use Rattle.hole_matcher.specs.HoleMessages.Sources.{source_in}
use Rattle.metal_tree.specs.MetalMachines.Machine.{Machine}
use Rattle.metal_tree.specs.MetalMachines.Rules.{rule_numbered}
use Rattle.metal_tree.specs.Whole.{machine_view}
use Rattle.objects.specs.Units.{facts_in}
use Rattle.report_model.specs.declared.report.Report.{Report}
use Rattle.state_tuples.specs.declared.transition_reports.checker.Checker.{Checker}
use Rattle.typed_unit.specs.declared.typed_unit.TypedUnit.{TypedUnit}

-- the checker, where its objects have this depth
abbrev pub checker_at : Checker → ℕ → reports.Checker
checker_at c depth = record { number = c.number; machine = machine_view c.machine.now; depth = depth; names = c.names.now }

-- THE TAKEN RULE is that of this number, with this binding
pub record IsTaken (m : Machine) (number : ℕ) (b : Binding) (t : Taken) : Type 0 where
  pub rule : rule_numbered number m.rules ≡ Some t.rule
  pub binding : b ≡ t.binding

-- the report of the rule of this number at this token
abbrev pub report_with : Checker → TypedUnit → ℕ → ℕ → Token → Option Object → ℕ → Binding → Report
report_with c u depth function t o number b = record {
  place = t.place;
  file = text_of c.names.now t.source;
  line = t.line;
  col = t.col;
  checker = c.number;
  checker_name = text_of c.names.now c.machine.now.name;
  rule = number;
  object = option_map (object_text c.names.now) o;
  message = rule_message (machine_view c.machine.now) number (facts_in u) depth function (source_in u c.names.now) b o;
}
