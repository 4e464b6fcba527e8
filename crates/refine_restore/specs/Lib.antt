pub mod Sites
pub mod HandedObjects
pub mod Ways
