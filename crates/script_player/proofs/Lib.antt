pub mod EndLaws
pub mod FileLaws
pub mod RunLaws
pub mod Played
pub mod Ran
pub mod Shown
