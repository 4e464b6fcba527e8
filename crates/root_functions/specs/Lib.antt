pub mod Callees
pub mod Roots
pub mod GraphRoots
pub mod CallSites
