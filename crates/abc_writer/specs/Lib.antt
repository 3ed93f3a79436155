pub mod Spelling
pub mod WritingLaws
pub mod Interning
pub mod PoolLaws
