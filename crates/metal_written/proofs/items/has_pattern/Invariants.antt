use Rattle.std.proofs.Common.{◌≡◌, drop, map}
use Rattle.metal_grammar.specs.Grammar.{some, is_pattern}
use Rattle.metal_grammar.specs.Faults.{any_of}
use Rattle.metal_written.specs.Written.{item_view, alternative_view}
use Rattle.metal_written.proofs.items.has_pattern.Given as goal

abbrev pub invariant-loop-item : goal.invariant-loop-item
invariant-loop-item l = any_of is_pattern (map item_view (drop l.item-index l.item-items)) ≡ some is_pattern (alternative_view l.alternative)
