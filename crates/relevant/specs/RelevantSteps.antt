pub mod Steps
pub mod Families
pub mod Theorems
