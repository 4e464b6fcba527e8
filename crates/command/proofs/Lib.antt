mod GivenCommands
mod GivenWords
mod Turns
mod Plans
mod Positions
mod Writing
mod Handing
mod Statuses
mod Complete
mod Readable
mod Contents
mod Generating
pub mod Promised
pub mod GeneratedProgram
pub mod CheckerReports
pub mod JudgedFiles
pub mod Unique
