pub mod ClassLaws
pub mod Inverted
pub mod Facts
pub mod Kept
pub mod Trees
