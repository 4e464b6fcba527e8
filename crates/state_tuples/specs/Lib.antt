pub mod Values
pub mod Numbers
pub mod Tuples
pub mod RuleChoices
pub mod AppliedRules
pub mod TransitionReports
pub mod Ways
