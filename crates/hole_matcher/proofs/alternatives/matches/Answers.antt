use Rattle.std.proofs.Common.{◌∙◌, sym, ap, map}
use Rattle.std.specs.Option.{option_map}
use Rattle.hole_matcher.proofs.RuleSteps.{found-matches}
use Rattle.hole_matcher.proofs.alternatives.matches.Goals as goal
use Rattle.hole_matching.specs.Alternatives.{matched_alternative}
use Rattle.metal_tree.specs.MetalMachines.Rules.{alternative_of}
use Rattle.metal_tree.specs.Views.{item_view, items_view}
use Rattle.metal_tree.specs.Whole.{machine_view}
use Rattle.objects.specs.Units.{facts_in}
use Rattle.c_tree.specs.PathSubjects.Values.{subject_of}

pub returns-in-Some-clause-matches : goal.returns-in-Some-clause-matches
returns-in-Some-clause-matches c =
    let items = map item_view c.in-Some.found.items.now in
    let s = subject_of c.args.subject in
    found-matches (machine_view c.args.machine.now) c.args.rule c.args.alternative (facts_in c.args.unit.now) c.args.depth c.args.function s items _
    (ap (λ o. alternative_of o c.args.alternative) c.rule.ensures ∙ sym c.alternative_of.ensures ∙ ap (option_map items_view) c.in-Some.is)
    (c.match_items.ensures ∙ ap (λ g. matched_alternative g items s) c.new-setting.ensures.rules)
    c.alternatives_are_matched.ensures
