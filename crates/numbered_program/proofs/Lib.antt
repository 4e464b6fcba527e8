mod ListSteps
mod SwappedNumbers
mod SetNumbers
mod KnownSources
mod KnownEndings
mod KnownBlocks
mod KnownRows
mod KnownBeginnings
pub mod SwappedBlocks
pub mod FunctionNumbers
pub mod ProgramParts
pub mod ViewNumbers
pub mod FrameKinds
pub mod GraphEndings
pub mod StandingEndings
pub mod StandingFunctions
pub mod StandingPrograms
pub mod NumberedTuples
pub mod EventTables
pub mod NumberedCalls
pub mod NumberedEvents
