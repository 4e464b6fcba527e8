pub mod Walks
pub mod Happenings
