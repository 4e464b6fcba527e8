pub mod Listed
pub mod Linking
