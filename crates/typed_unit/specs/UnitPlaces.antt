pub mod Standing
pub mod Functions
pub mod Typed
pub mod Theorems
