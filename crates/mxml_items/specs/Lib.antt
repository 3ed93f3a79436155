pub mod Runs
pub mod Names
pub mod Pieces
pub mod Items
pub mod Reading
pub mod Texts
pub mod Places
