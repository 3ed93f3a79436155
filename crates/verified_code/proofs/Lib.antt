pub mod PathLaws
pub mod ReasonLaws
pub mod SoundLaws
