pub mod FirstSome
pub mod AskedRules
