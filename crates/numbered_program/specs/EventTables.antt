pub mod ObjectIndex
pub mod Written
pub mod Touched
pub mod RuleEnds
pub mod Alternatives
pub mod Rows
