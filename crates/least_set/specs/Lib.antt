pub mod Logs
pub mod Counts
pub mod Found
pub mod Indexes
pub mod OnePremise
pub mod TwoPremises
pub mod Ways
