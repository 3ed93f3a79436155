pub mod Upward
pub mod Natives
pub mod Levels
pub mod Owners
pub mod Gathered
pub mod ClassSteps
