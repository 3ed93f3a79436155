pub mod Feeding
pub mod NamedFiles
pub mod Told
pub mod Whole
