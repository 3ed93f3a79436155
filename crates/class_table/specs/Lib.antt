pub mod Columns
pub mod Ids
pub mod Seen
pub mod Sent
