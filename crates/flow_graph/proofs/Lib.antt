mod Steps
mod Backwards
mod SameDefaults
mod Yielding
mod Placing
mod Whole
mod JoinedGraphs
mod RedirectedGraphs
mod FinalWays
mod LabelLists
mod BlockLists
mod Arms
mod Loops
mod TakenOver
mod Turns
pub mod CPaths
pub mod ReachedBlocks
