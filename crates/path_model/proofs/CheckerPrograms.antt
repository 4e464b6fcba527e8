pub mod Bound
pub mod Closed
pub mod EarlierRoots
pub mod Formals
