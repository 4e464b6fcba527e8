pub mod Items
pub mod HoleBindings
pub mod HoleMessages
pub mod Ways
