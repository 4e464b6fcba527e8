pub mod Graphs
pub mod Ends
pub mod Members
pub mod Theorems
