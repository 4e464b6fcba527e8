pub mod Views
pub mod Parts
pub mod Facts
pub mod Whole
pub mod MetalMachines
