pub mod Few
pub mod Named
pub mod Refusing
pub mod MetalPositions
pub mod MetalFaults
