pub mod AmongEvents
pub mod Gifts
pub mod MetEdges
pub mod EmptyEdges
pub mod StartGifts
