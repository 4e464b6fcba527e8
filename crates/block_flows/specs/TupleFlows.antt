pub mod Facts
pub mod Moved
pub mod Behind
pub mod Passed
