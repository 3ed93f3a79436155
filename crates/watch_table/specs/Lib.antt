pub mod Affected
pub mod Steps
