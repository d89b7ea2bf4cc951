pub mod Reports
pub mod Digests
pub mod JsonReports
