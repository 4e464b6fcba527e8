use Rattle.std.proofs.Common.{◌≡◌, ℕ, length}
use Rattle.flow_graph.specs.Targets.{target_of}
use Rattle.flow_graph.proofs.targets.each_itself.Given as goal

-- the blocks before this one
abbrev pub invariant-loop-number : goal.invariant-loop-number
invariant-loop-number l = record {
  all : length l.targets.items ≡ l.number;
  itself : (block : ℕ) → target_of l.targets.items block ≡ block;
}
