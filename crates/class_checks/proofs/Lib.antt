pub mod FileByFile
pub mod Seen
