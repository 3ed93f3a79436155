pub mod Names
pub mod Values
pub mod DocumentLaws
pub mod Rows
