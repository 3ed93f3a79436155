pub mod Standing
pub mod Parts
pub mod Attributes
pub mod BindingTexts
pub mod DocumentSites
pub mod Faults
pub mod Rows
