use Rattle.std.proofs.Common.{◌≡◌, map, take}
use Rattle.numbered_program.specs.Views.{swapped}
use Rattle.numbered_program.proofs.swaps.all_swapped.Given as goal

-- the numbers of the blocks that were gone through
abbrev pub invariant-loop-block : goal.invariant-loop-block
invariant-loop-block l = l.list.items ≡ map (swapped l.first) (take l.block-index l.blocks)
