pub mod AllKnown
pub mod KnownSets
pub mod EdgeReports
pub mod MetStates
pub mod TabulationEngine
