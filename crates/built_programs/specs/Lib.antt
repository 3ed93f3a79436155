pub mod Fine
pub mod Programs
pub mod Rows
