use Rattle.numbered_program.proofs.NumberedEvents.StandingRows.{block_stands}
use Rattle.numbered_program.proofs.numbered_events.theorems.blocks_stand_for_events.Goals as goal
use Rattle.block_flows.specs.Masks.{graphs_under}

pub returns : goal.returns
returns c checker ts gs lists V n f followed states known numbers named hs rows are k =
    block_stands checker ts lists (graphs_under checker ts gs lists) V n f followed states known.listed known.views numbers named k hs rows are
