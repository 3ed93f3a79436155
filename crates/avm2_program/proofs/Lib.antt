pub mod Decoding
pub mod Targets
pub mod TypeLaws
