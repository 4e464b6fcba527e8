use Rattle.std.proofs.Common.{◌≡◌, length}
use Rattle.flow_graph.specs.KeptBlocks.{HaveNumbers}
use Rattle.flow_graph.proofs.kept_blocks.note_places.Given as goal

-- those before this place have their numbers
abbrev pub invariant-loop-place : goal.invariant-loop-place
invariant-loop-place l = record {
  all : length l.numbers ≡ length l.fn.numbers;
  have : HaveNumbers l.place l.kept (length l.fn.numbers) l.numbers;
}
