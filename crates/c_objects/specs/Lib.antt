pub mod Facts
pub mod Objects
pub mod Paths
pub mod Replaced
pub mod ObjectOf
pub mod Text
pub mod Theorems
