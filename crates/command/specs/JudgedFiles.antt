pub mod Judged
pub mod Linking
pub mod FirstFault
