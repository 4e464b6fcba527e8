pub mod PartsByCase
