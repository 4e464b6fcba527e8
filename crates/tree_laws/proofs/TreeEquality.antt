pub mod ComparedKinds
pub mod Rebuilt
pub mod SeenLevels
pub mod Sizes
