pub mod KnownReads
pub mod Readable
