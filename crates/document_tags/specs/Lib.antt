pub mod Kinds
pub mod Placing
pub mod Tags
