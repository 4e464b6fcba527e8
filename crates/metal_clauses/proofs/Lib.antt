pub mod InCuts
pub mod InTurn
pub mod InReading
pub mod InClauses
pub mod MetalParts
