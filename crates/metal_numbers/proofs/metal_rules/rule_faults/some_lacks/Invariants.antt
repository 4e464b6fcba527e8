use Rattle.std.proofs.Common.{◌≡◌, drop, map, not, ◌&&◌, ◌||◌}
use Rattle.metal_grammar.specs.Faults.{any_of}
use Rattle.metal_grammar.specs.Rules.{is_among, pattern_names}
use Rattle.metal_grammar.specs.Faults.{is_excused}
use Rattle.metal_numbers.specs.MetalRules.RuleFaults.{some_lacks}
use Rattle.metal_written.specs.Placed.{placed_view}
use Rattle.metal_written.specs.Written.{alternative_view, state_view}
use Rattle.metal_numbers.proofs.metal_rules.rule_faults.some_lacks.Given as goal

abbrev pub invariant-loop-alternative : goal.invariant-loop-alternative
invariant-loop-alternative l = any_of (λ items. not ((l.is_hole && is_among (pattern_names items) l.name) || is_excused (state_view l.rule.source) items l.name)) (map alternative_view (drop l.alternative-index l.alternative-items)) ≡ some_lacks l.is_hole (placed_view l.rule) l.name
