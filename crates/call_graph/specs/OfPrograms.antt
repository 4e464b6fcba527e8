pub mod Definitions
pub mod Bodies
pub mod Repeats
pub mod Tables
pub mod Calls
pub mod Theorems
