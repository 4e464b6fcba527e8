pub mod StandingRows
pub mod EdgeReports
pub mod MetStates
pub mod InStart
pub mod Entries
pub mod Reading
