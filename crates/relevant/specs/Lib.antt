pub mod LinkedObjects
pub mod RelevantObjects
pub mod RelevantSteps
pub mod RelevantRows
pub mod RelevantLists
pub mod ProgramRows
pub mod BoundMembers
