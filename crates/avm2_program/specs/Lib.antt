pub mod Names
pub mod Decoding
pub mod Naming
pub mod Traits
pub mod Operations
pub mod Resolving
