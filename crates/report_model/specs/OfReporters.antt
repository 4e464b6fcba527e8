pub mod Beginnings
pub mod Members
pub mod Styles
