pub mod AfterPhrases
pub mod SameSymbols
