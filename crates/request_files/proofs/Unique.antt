pub mod NamesStay
pub mod KeptTokens
pub mod OneList
pub mod OneSource
pub mod OneChecker
pub mod OneFile
pub mod OneFirst
pub mod OneKind
