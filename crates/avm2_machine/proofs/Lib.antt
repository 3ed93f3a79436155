pub mod Outward
pub mod Progress
pub mod Stages
pub mod Walks
