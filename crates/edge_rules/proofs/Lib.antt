mod CrossedBlocks
mod Endings
mod Beginnings
mod Entered
mod Followed
pub mod WaitRules
