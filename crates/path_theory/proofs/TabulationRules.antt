pub mod Closed
pub mod Edges
pub mod Reports
pub mod OwnValues
pub mod Squashed
pub mod Stable
