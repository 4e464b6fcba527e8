pub mod Setting
pub mod Placing
pub mod Reading
pub mod Inserting
pub mod Near
pub mod Marking
