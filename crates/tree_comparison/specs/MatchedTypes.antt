pub mod Stars
pub mod Words
