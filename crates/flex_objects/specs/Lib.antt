pub mod Tables
pub mod Properties
pub mod Entities
pub mod Once
