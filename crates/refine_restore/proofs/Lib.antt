pub mod HandedObjects
