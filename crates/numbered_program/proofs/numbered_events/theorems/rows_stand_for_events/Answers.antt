use Rattle.numbered_program.proofs.NumberedEvents.StandingRows.{is_row_of}
use Rattle.numbered_program.proofs.numbered_events.theorems.rows_stand_for_events.Goals as goal
use Rattle.block_flows.specs.Masks.{graphs_under}

pub returns : goal.returns
returns c checker ts gs lists V n f followed states known h row is es number here k =
    is_row_of checker ts lists (graphs_under checker ts gs lists) V n f followed states known.listed known.views h row is k es number here
