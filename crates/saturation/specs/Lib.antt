pub mod MetStates
pub mod EdgeReports
pub mod TabulationEngine
