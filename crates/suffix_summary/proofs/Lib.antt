-- logs under a strict mask
mod HandedBack
mod SameFlows
mod SameEdges
mod SameSteps
mod SameLogs
mod StrictLogs
mod Returns
mod ExitsOfCheckers
pub mod LogsOfCheckers
-- what the engine shows and follows
pub mod AllKnown
pub mod KnownEdges
pub mod KnownSets
pub mod StartAlone
pub mod StandingTables
pub mod EdgeReports
pub mod MetStates
-- the log over all relevant objects
mod Readings
mod KnownLogs
