pub mod Dots
pub mod Heard
pub mod OtherWords
pub mod Prefixed
pub mod StateProperties
pub mod TagPlaces
