mod Texts
mod Leading
mod Listing
mod Carried
pub mod GraphRoots
pub mod CallSites
