pub mod InRows
pub mod InActions
pub mod InTypes
