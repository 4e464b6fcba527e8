pub mod SameValues
pub mod Somehow
pub mod Keeping
pub mod AllReports
