pub mod ClauseFaults
pub mod Faults
pub mod FirstFaults
