pub mod Source
pub mod Parts
