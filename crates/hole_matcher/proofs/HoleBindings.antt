pub mod HoleTypes
pub mod SlotItems
pub mod TakenLists
pub mod TakenOnes
