pub mod OneByOne
mod Gathered
mod OfBlocks
mod OfFunctions
pub mod EngineTables
