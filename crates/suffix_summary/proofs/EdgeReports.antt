pub mod RulesApplied
pub mod AtEvents
pub mod SayingEdges
