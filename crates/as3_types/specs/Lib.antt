pub mod Meanings
pub mod Types
pub mod Natives
pub mod Tables
pub mod Identifiers
pub mod Clauses
