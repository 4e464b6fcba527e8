mod SpellingSteps
mod Taking
mod Reaching
mod Positions
mod Rising
mod Kept
mod TokenGroups
mod ChunkSteps
pub mod CReading
