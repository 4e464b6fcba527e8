pub mod Written
pub mod TypeWords
pub mod Sizes
pub mod Kinds
pub mod Placed
pub mod Messages
pub mod Texts
pub mod Strings
