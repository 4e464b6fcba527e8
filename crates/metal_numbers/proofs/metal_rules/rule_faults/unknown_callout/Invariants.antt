use Rattle.std.proofs.Common.{◌≡◌, drop, map, flat_map}
use Rattle.metal_grammar.specs.Faults.{unknown_callouts}
use Rattle.metal_written.specs.Written.{alternative_view, rule_view}
use Rattle.metal_numbers.specs.MetalRules.RuleFaults.{first_of, unknown_callouts_in}
use Rattle.metal_numbers.proofs.metal_rules.rule_faults.unknown_callout.Given as goal

abbrev pub invariant-loop-alternative : goal.invariant-loop-alternative
invariant-loop-alternative l = first_of (flat_map (unknown_callouts_in l.names) (map alternative_view (drop l.alternative-index l.alternative-items))) ≡ first_of (unknown_callouts l.names (rule_view l.rule))
