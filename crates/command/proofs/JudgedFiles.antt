pub mod Accepting
pub mod Defining
pub mod Linked
pub mod Located
pub mod Sizes
pub mod Texts
pub mod Tokens
