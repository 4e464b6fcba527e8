use Rattle.std.proofs.Common.{◌≡◌, drop, map, flat_map}
use Rattle.metal_grammar.specs.Faults.{any_of}
use Rattle.metal_grammar.specs.Rules.{callout_names_of, callout_names}
use Rattle.metal_written.specs.Written.{item_view, alternative_view}
use Rattle.metal_numbers.specs.MetalRules.RuleFaults.{is_other}
use Rattle.metal_numbers.proofs.metal_rules.rule_faults.alternative_asks_of_other.Given as goal

abbrev pub invariant-loop-item : goal.invariant-loop-item
invariant-loop-item l = any_of (is_other l.holes) (flat_map callout_names_of (map item_view (drop l.item-index l.item-items))) ≡ any_of (is_other l.holes) (callout_names (alternative_view l.alternative))
