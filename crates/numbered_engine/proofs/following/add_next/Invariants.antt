use Rattle.std.proofs.Common.{◌≡◌, ◌++◌, map, take}
use Rattle.numbered_engine.specs.Following.{at}
use Rattle.numbered_engine.proofs.following.add_next.Given as goal

-- the blocks that were gone through
abbrev pub invariant-loop-block : goal.invariant-loop-block
invariant-loop-block l = l.list.items ≡ l.initial.list.items ++ map (at l.context l.tuple) (take l.block-index l.blocks)
