use Rattle.metal_grammar.specs.Meaning.{rule_of}
use Rattle.metal_tree.specs.Views.{rule_view}
use Rattle.metal_written.specs.Placed.{placed_view}
use Rattle.metal_numbers.specs.Numbers.{variables_in}
use Rattle.metal_numbers.specs.MetalBuilding.Builders.{numbers}
use Rattle.metal_numbers.proofs.MetalBuilding.Pushing.{twice_push, places_push, named_rest}
use Rattle.metal_numbers.proofs.metal_building.building.Builder.rules.Goals as goal

pub loop-rule-preserved : goal.loop-rule-preserved
loop-rule-preserved c =
    let all = c.loop-rule.made.items in
    let pushed = c.push.new.self.items in
    let made = c.in_ok-rule.field-0 in
    let rules = c.args.rules.now in
    let index = c.loop-rule.rule-index in
    let rule = c.rule-item.result in
    record {
      made = twice_push rule_view (rule_of (numbers c.args.self.now)) placed_view all pushed made rules index rule c.in_ok-push.ensures.items c.loop-rule.invariant.made c.loop-rule-test.true c.in_ok-rule.ensures.made c.rule-item.is;
      named = named_rest (variables_in c.args.self.now.numbering) rules index rule c.loop-rule-test.true c.loop-rule.invariant.named;
      places = places_push c.args.self.now.file all pushed made c.in_ok-push.ensures.items c.loop-rule.invariant.places c.in_ok-rule.ensures.place;
    }
