pub mod Machine
pub mod Names
pub mod Progress
pub mod Stage
pub mod Tables
