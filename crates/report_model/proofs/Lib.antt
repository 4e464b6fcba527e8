pub mod ReportLists
pub mod OfReporters
