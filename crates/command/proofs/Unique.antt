pub mod OneMeaning
pub mod OneReports
pub mod OneAnswer
pub mod Told
pub mod OneDue
