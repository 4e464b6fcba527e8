pub mod Results
pub mod Stable
pub mod Given
pub mod Steps
pub mod Mapped
pub mod AtEnds
pub mod Resuming
