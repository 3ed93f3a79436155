pub mod Stage
pub mod Answers
pub mod Making
pub mod Properties
pub mod Arrays
pub mod Tree
pub mod Events
pub mod Documents
