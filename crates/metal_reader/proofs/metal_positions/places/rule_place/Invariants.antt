use Rattle.std.proofs.Common.{◌≡◌, ◌≤◌, ◌<◌, ◌^◌, ◌-◌, length}
use Rattle.metal_reader.proofs.MetalPositions.Walking.{found_from}
use Rattle.metal_reader.proofs.metal_positions.places.rule_place.Given as goal

abbrev pub invariant-loop-index : goal.invariant-loop-index
invariant-loop-index l = record {
  found : found_from l.depth l.number l.rule l.all l.index ≡ found_from 0 0 l.rule l.all 0;
  index : l.index ≤ length l.all;
  depth : l.depth ≤ l.index;
  number : l.number ≤ l.index;
  few : length l.all < 2 ^ 32;
}

abbrev pub decreases-loop-index : goal.decreases-loop-index
decreases-loop-index l = length l.all - l.index
