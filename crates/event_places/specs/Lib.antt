pub mod Standing
pub mod Bodies
pub mod Naming
pub mod Spelling
pub mod Theorems
