pub mod Filed
pub mod Lists
