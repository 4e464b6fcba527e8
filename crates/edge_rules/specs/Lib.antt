pub mod Entries
pub mod WaitRules
