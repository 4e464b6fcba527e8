pub mod Examples
pub mod Carried
pub mod Tables
