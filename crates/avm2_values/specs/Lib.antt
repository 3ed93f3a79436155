pub mod Answers
pub mod Conversions
