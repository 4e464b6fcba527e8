pub mod Cells
pub mod Lists
pub mod Reversed
pub mod Texts
pub mod ByKind
