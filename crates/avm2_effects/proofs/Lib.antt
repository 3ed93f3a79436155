pub mod Behind
pub mod Slots
pub mod Stored
pub mod Told
