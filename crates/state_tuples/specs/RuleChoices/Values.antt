-- What the types of the program stand for.
use Rattle.std.specs.Prelude.{None, Some}
use Rattle.path_model.specs.CheckerModel.Choices.{Taken}
use Rattle.hole_matcher.specs.HoleBindings.Bindings.{binding_of}
use Rattle.hole_matcher.specs.declared.hole_bindings.binding.Binding.{Binding}
use Rattle.metal_tree.specs.declared.rules.Rule.{Rule}
use Rattle.metal_tree.specs.Views.{rule_view}
use Rattle.state_tuples.specs.RuleChoices.Asked.{Asker, GlobalState, ObjectIn}
use Rattle.state_tuples.specs.declared.rule_choices.asked.Asked.{Asked}
use Rattle.state_tuples.specs.declared.rule_choices.asked.Asked.TheVariants as asked
use Rattle.state_tuples.specs.declared.rule_choices.fired.Fired.{Fired}

abbrev pub taken_by : Rule → Binding → Taken
taken_by r b = record { rule = rule_view r; binding = binding_of b }

abbrev pub taken_of : Fired → Taken
taken_of f = taken_by f.rule.now f.binding

abbrev pub asker_of : Asked → Asker
asker_of asked.Global = GlobalState
asker_of (asked.Unknown o) = ObjectIn o.now None
asker_of (asked.Known o x) = ObjectIn o.now (Some x)
