use Rattle.std.proofs.Common.{◌≡◌, take, drop, map}
use Rattle.metal_grammar.specs.Meaning.{rule_of}
use Rattle.metal_written.specs.Placed.{placed_views}
use Rattle.metal_tree.specs.Views.{rule_views}
use Rattle.metal_numbers.specs.MetalBuilding.Builders.{numbers}
use Rattle.metal_numbers.specs.Numbers.{AreNamed, variables_in}
use Rattle.metal_numbers.specs.MetalBuilding.Places.{HasPlaces}
use Rattle.metal_numbers.proofs.metal_building.building.Builder.rules.Given as goal

abbrev pub invariant-loop-rule : goal.invariant-loop-rule
invariant-loop-rule l = record {
  made : rule_views l.made.items ≡ map (rule_of (numbers l.self)) (placed_views (take l.rule-index l.rules));
  named : AreNamed (variables_in l.self.numbering) (placed_views (drop l.rule-index l.rules));
  places : HasPlaces l.self.file l.made.items;
}
