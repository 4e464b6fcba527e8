pub mod Untouched
pub mod Numbered
pub mod Variables
pub mod LeftSides
pub mod OfEvents
pub mod Examples
