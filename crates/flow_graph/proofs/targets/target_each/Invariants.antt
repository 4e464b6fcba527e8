use Rattle.std.proofs.Common.{◌≡◌, map, take}
use Rattle.flow_graph.specs.Targets.{target_of}
use Rattle.flow_graph.proofs.targets.target_each.Given as goal

-- those before this one
abbrev pub invariant-loop-block : goal.invariant-loop-block
invariant-loop-block l = l.ends.items ≡ map (target_of l.targets) (take l.block-index l.blocks)
