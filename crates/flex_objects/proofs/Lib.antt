pub mod Booleans
pub mod Once
pub mod Positions
pub mod Tables
pub mod Fields
pub mod NativeSlots
