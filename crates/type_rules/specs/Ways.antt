pub mod ScopesByCase
pub mod TablesByCase
pub mod TypesByCase
