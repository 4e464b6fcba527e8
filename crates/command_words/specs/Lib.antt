pub mod Generation
pub mod Views
pub mod Words
pub mod Ways
