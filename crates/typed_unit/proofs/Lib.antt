pub mod Cells
pub mod Placed
pub mod Sets
pub mod TokenSearch
pub mod UnitPlaces
