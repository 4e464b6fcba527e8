pub mod Closing
pub mod Variables
pub mod Known
pub mod Bodies
