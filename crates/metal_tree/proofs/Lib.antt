pub mod Numbered
pub mod MetalMachines
