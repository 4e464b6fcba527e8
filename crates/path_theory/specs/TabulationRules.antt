pub mod Rules
pub mod LeastSets
pub mod OwnValues
pub mod Theorems
