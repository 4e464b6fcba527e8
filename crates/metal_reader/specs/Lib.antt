pub mod Faults
pub mod MetalPositions
pub mod MetalFaults
