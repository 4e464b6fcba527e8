pub mod Happenings
pub mod Moves
pub mod Calls
pub mod Choices
pub mod Reports
pub mod Checkers
pub mod Distinct
pub mod Theorems
