pub mod Views
pub mod Rows
pub mod RowParts
pub mod Calls
pub mod Tables
pub mod Reports
