pub mod Orders
pub mod EachOnce
