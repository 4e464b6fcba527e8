use Rattle.std.proofs.Common.{ap, ◌∙◌}
use Rattle.numbered_program.specs.EventTables.Alternatives.{bound_number}
use Rattle.numbered_program.specs.EventTables.RuleEnds.{numbered_target, variable_asked}
use Rattle.hole_matcher.specs.HoleBindings.Bindings.{binding_of}
use Rattle.hole_matcher.specs.HoleBindings.Settings.{setting_in}
use Rattle.metal_tree.specs.Views.{source_view}
use Rattle.numbered_program.proofs.event_tables.alternatives.alternative_row.Goals as goal

pub returns : goal.returns
returns c =
    let n = c.args.numbering.now in
    let fired = c.args.fired.now in
    let led = c.target_at-target.ensures in
    let object = c.bound_number.ensures ∙ ap (λ v. bound_number n.objects.now.keys (setting_in c.args.rules.now.setting) v (binding_of fired.binding)) (c.variable_asked-variable.ensures ∙ ap (variable_asked (source_view fired.rule.now.source)) led) in
    λ i. record {
      rule = fired.rule.now.number;
      alternative = fired.alternative;
      source = c.numbered_source.ensures i;
      target = (c.numbered_target.ensures ∙ ap (numbered_target n.states.now.states.keys) led) i;
      object = object i;
      has_action = c.has_action.ensures i;
    }
