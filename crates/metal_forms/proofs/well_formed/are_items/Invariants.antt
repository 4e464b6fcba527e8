use Rattle.std.proofs.Common.{◌≡◌, drop, map}
use Rattle.metal_grammar.specs.Grammar.{Before, each, is_item}
use Rattle.metal_tree.specs.MetalMachines.Kept.{all_of}
use Rattle.metal_forms.specs.Before.{Knows}
use Rattle.metal_written.specs.Written.{item_view, alternative_view}
use Rattle.metal_forms.proofs.well_formed.are_items.Given as goal

abbrev pub invariant-loop-item : goal.invariant-loop-item
invariant-loop-item l = (b : Before) → Knows l.before b → all_of (is_item l.names b.holes) (map item_view (drop l.item-index l.item-items)) ≡ each (is_item l.names b.holes) (alternative_view l.alternative)
