pub mod Beginnings
pub mod RuleMessages
pub mod Sources
