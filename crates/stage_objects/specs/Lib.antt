pub mod Entries
pub mod Entities
pub mod Tree
pub mod Events
pub mod Documents
