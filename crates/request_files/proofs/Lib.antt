mod KnownFiles
mod Refusing
mod Turns
mod Looping
mod Joined
mod Examples
pub mod FrontEnd
pub mod Unique
