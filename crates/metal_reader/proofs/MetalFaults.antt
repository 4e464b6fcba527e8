pub mod Order
pub mod Actions
