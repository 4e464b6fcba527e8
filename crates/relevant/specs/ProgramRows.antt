pub mod Filing
pub mod Ends
pub mod Made
