use Rattle.std.proofs.Common.{◌≡◌, drop, map, flat_map}
use Rattle.metal_grammar.specs.Faults.{any_of}
use Rattle.metal_grammar.specs.Rules.{callout_names, all_callout_names}
use Rattle.metal_written.specs.Written.{alternative_view, rule_view}
use Rattle.metal_numbers.specs.MetalRules.RuleFaults.{is_other}
use Rattle.metal_numbers.proofs.metal_rules.rule_faults.asks_of_other.Given as goal

abbrev pub invariant-loop-alternative : goal.invariant-loop-alternative
invariant-loop-alternative l = any_of (is_other l.holes) (flat_map callout_names (map alternative_view (drop l.alternative-index l.alternative-items))) ≡ any_of (is_other l.holes) (all_callout_names (rule_view l.rule))
