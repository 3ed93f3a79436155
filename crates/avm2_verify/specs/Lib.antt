pub mod Followed
pub mod Known
pub mod Marking
pub mod Reasons
pub mod Refusals
pub mod Tables
pub mod Ways
