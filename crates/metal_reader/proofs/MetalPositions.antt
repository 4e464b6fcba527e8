pub mod Skipping
pub mod Rules
pub mod Counting
pub mod Walking
pub mod Placing
