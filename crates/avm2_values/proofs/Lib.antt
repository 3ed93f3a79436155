pub mod Locals
pub mod Objects
pub mod Continuing
pub mod Reversed
