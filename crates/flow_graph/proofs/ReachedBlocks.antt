pub mod ReachedWalks
pub mod Within
pub mod Listing
pub mod KeptBlocks
pub mod NewNumbers
