pub mod Texts
pub mod Roots
pub mod Paths
pub mod Relevant
pub mod Reported
pub mod Theorems
