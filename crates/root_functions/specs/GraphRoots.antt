pub mod Graphs
pub mod Listed
pub mod Searches
