pub mod InTypes
pub mod InTypeNames
pub mod Seats
pub mod Walks
