pub mod Subjects
pub mod Values
pub mod Theorems
