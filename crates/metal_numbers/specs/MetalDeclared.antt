pub mod DeclaredNames
pub mod Limits
pub mod DeclaredHoles
