pub mod Apart
pub mod NoneWritten
pub mod OpenedTrees
