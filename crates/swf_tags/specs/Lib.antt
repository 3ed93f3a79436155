pub mod Spelling
pub mod File
pub mod Fields
pub mod Reading
pub mod Feeding
pub mod Push
pub mod Views
pub mod SwfLaws
