-- What the builder of statements has made.
use Rattle.std.specs.Prelude.{◌≡◌, ℕ, List, ◌++◌}
use Rattle.flow_graph.specs.CPaths.Flow.{Flow, Flows}
use Rattle.flow_graph.specs.CPaths.Building.{Draft, Placed, flow_blocks, flows_blocks}
use Rattle.flow_graph.specs.declared.statements.Ahead.{Ahead}
use Rattle.flow_graph.specs.declared.statements.BodyBuilder.{BodyBuilder}
use Rattle.flow_graph.specs.Values.{drafts_of}

-- the blocks of a statement that leads there
abbrev pub blocks_ahead : Flow → Ahead → List Draft → Placed
blocks_ahead s ahead ds = flow_blocks s ahead.next ahead.at_break ahead.at_continue ds

-- the same of statements in a row
abbrev pub rows_ahead : Flows → Ahead → List Draft → Placed
rows_ahead ss ahead ds = flows_blocks ss ahead.next ahead.at_break ahead.at_continue ds

-- The builder has these blocks, of which the statement begins at b, and its cases and labels behind those before.
pub record IsPlaced (old new : BodyBuilder) (old_cases new_cases : List ℕ) (b : ℕ) (p : Placed) : Type 0 where
  pub drafts : drafts_of new.blocks.drafts.items ≡ p.drafts
  pub block : b ≡ p.block
  pub cases : new_cases ≡ old_cases ++ p.cases
  pub labels : new.labels ≡ old.labels ++ p.labels
