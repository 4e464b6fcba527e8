pub mod Members
pub mod Firsts
pub mod Variables
pub mod Lacking
