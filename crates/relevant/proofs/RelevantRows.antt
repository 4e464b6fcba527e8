pub mod Linking
pub mod Exact
