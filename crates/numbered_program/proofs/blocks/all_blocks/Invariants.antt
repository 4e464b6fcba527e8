use Rattle.std.proofs.Common.{◌≡◌, ◌≤◌, ℕ, List, Some, length, slice_get}
use Rattle.flow_graph.specs.Seen.{graph_in}
use Rattle.numbered_engine.specs.declared.program.Block.{Block}
use Rattle.numbered_program.specs.Made.{IsBlockAt}
use Rattle.numbered_program.specs.Numbered.{IsSourceOf}
use Rattle.numbered_program.specs.Views.{swapped}
use Rattle.path_model.specs.CheckerModel.Choices.{State}
use Rattle.path_model.specs.CheckerModel.Happenings.{Function}
use Rattle.numbered_program.proofs.blocks.all_blocks.Given as goal

-- the blocks before this one
abbrev pub invariant-loop-number : goal.invariant-loop-number
invariant-loop-number l = record {
  made : (states : List State) (f : Function) → IsSourceOf states l.source f → (b : ℕ) (r : Block) → slice_get l.blocks.items b ≡ Some r
      → IsBlockAt states l.source f (swapped (graph_in l.source.table.now.graph.now).entry b) r;
  count : length l.blocks.items ≡ l.number;
  within : l.number ≤ length (graph_in l.source.table.now.graph.now).blocks;
}
