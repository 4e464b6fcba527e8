pub mod Lists
pub mod Machine
pub mod Limits
pub mod Numbers
pub mod Kept
pub mod Rules
pub mod Theorems
