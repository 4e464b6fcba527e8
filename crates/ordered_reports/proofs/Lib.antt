-- a report's place, name and unit
pub mod OwnFiles
pub mod Written
pub mod UnitsOfFunctions
-- reports in order
pub mod Compared
pub mod Agreeing
pub mod InOrder
-- lists that are gone over
pub mod Gathered
