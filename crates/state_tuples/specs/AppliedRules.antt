pub mod Applied
pub mod Events
pub mod Takers
pub mod Bound
