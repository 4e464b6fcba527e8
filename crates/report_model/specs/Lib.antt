pub mod Lines
pub mod Order
pub mod ReportLists
pub mod OfReporters
