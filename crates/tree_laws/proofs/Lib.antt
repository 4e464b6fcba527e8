pub mod TreeYields
pub mod TreeEquality
