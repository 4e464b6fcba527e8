pub mod Numbered
pub mod Gathering
pub mod Counting
pub mod FlatPaths
