use Rattle.std.proofs.Common.{◌≡◌, drop, map}
use Rattle.metal_grammar.specs.Faults.{any_of}
use Rattle.metal_grammar.specs.Faults.{some_end}
use Rattle.metal_grammar.specs.Rules.{has_end}
use Rattle.metal_written.specs.Written.{alternative_view, rule_view}
use Rattle.metal_numbers.proofs.metal_rules.rule_faults.some_end.Given as goal

abbrev pub invariant-loop-alternative : goal.invariant-loop-alternative
invariant-loop-alternative l = any_of has_end (map alternative_view (drop l.alternative-index l.alternative-items)) ≡ some_end (rule_view l.rule)
