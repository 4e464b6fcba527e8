pub mod AtTokens
pub mod InText
pub mod MoreNames
pub mod NoMachine
pub mod NoUnit
