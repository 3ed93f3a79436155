pub mod Constructors
pub mod Events
pub mod Members
pub mod Whole
