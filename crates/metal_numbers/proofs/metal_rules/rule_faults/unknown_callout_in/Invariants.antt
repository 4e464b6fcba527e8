use Rattle.std.proofs.Common.{◌≡◌, drop, map, flat_map}
use Rattle.metal_grammar.specs.Faults.{unknown_callout_of}
use Rattle.metal_written.specs.Written.{item_view, alternative_view}
use Rattle.metal_numbers.specs.MetalRules.RuleFaults.{first_of, unknown_callouts_in}
use Rattle.metal_numbers.proofs.metal_rules.rule_faults.unknown_callout_in.Given as goal

abbrev pub invariant-loop-item : goal.invariant-loop-item
invariant-loop-item l = first_of (flat_map (unknown_callout_of l.names) (map item_view (drop l.item-index l.item-items))) ≡ first_of (unknown_callouts_in l.names (alternative_view l.alternative))
