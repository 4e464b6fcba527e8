use Rattle.std.proofs.Common.{◌≡◌, drop, map, flat_map}
use Rattle.metal_grammar.specs.Rules.{is_among, pattern_names_of, pattern_names}
use Rattle.metal_written.specs.Written.{item_view, alternative_view}
use Rattle.metal_numbers.proofs.metal_rules.named.pattern_names.Given as goal

abbrev pub invariant-loop-item : goal.invariant-loop-item
invariant-loop-item l = is_among (flat_map pattern_names_of (map item_view (drop l.item-index l.item-items))) l.name ≡ is_among (pattern_names (alternative_view l.alternative)) l.name
