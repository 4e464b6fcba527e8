pub mod TakenRules
pub mod AtEvents
pub mod CrossedReports
pub mod ShownEdges
