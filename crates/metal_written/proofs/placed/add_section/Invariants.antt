use Rattle.std.proofs.Common.{◌≡◌, ◌≤◌, ◌+◌, ◌++◌, length, drop, map}
use Rattle.metal_grammar.specs.Rules.{rules_from}
use Rattle.metal_written.specs.Placed.{placed_views}
use Rattle.metal_written.specs.Sizes.{HaveSizes, size_of_rules}
use Rattle.metal_written.specs.Written.{rule_view, rules_row, state_view}
use Rattle.metal_written.proofs.InPlaces.{rules_in}
use Rattle.metal_written.proofs.placed.add_section.Given as goal

abbrev pub invariant-loop-rule : goal.invariant-loop-rule
invariant-loop-rule l = record {
  placed : placed_views l.placed.items ++ rules_in l.number l.at (state_view l.section.source) (map rule_view (drop l.rule-index l.rule-items)) ≡ placed_views l.fn.placed.items ++ rules_from l.first l.position (state_view l.section.source) (rules_row l.section.rules);
  sizes : HaveSizes (drop l.rule-index l.rule-items);
  room : l.at + size_of_rules (drop l.rule-index l.rule-items) ≤ l.position + size_of_rules l.section.rules.now;
  count : l.number + length (drop l.rule-index l.rule-items) ≡ l.first + length l.section.rules.now;
}
