pub mod Gathering
pub mod Behind
pub mod Natives
