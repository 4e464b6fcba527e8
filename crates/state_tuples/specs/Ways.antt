pub mod Equality
pub mod Firsts
