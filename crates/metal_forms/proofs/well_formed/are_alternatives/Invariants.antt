use Rattle.std.proofs.Common.{◌≡◌, drop, map}
use Rattle.metal_grammar.specs.Grammar.{Before, each, is_alternative}
use Rattle.metal_tree.specs.MetalMachines.Kept.{all_of}
use Rattle.metal_forms.specs.Before.{Knows}
use Rattle.metal_written.specs.Written.{alternative_view, alternatives_row}
use Rattle.metal_forms.proofs.well_formed.are_alternatives.Given as goal

abbrev pub invariant-loop-alternative : goal.invariant-loop-alternative
invariant-loop-alternative l = (b : Before) → Knows l.before b → all_of (is_alternative l.names b.holes) (map alternative_view (drop l.alternative-index l.alternative-items)) ≡ each (is_alternative l.names b.holes) (alternatives_row l.rule.alternatives)
