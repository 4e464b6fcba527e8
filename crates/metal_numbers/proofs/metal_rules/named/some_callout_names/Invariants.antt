use Rattle.std.proofs.Common.{◌≡◌, drop, map, flat_map}
use Rattle.metal_grammar.specs.Rules.{is_among, callout_names, all_callout_names}
use Rattle.metal_written.specs.Written.{alternative_view, rule_view}
use Rattle.metal_numbers.proofs.metal_rules.named.some_callout_names.Given as goal

abbrev pub invariant-loop-alternative : goal.invariant-loop-alternative
invariant-loop-alternative l = is_among (flat_map callout_names (map alternative_view (drop l.alternative-index l.alternative-items))) l.name ≡ is_among (all_callout_names (rule_view l.rule)) l.name
