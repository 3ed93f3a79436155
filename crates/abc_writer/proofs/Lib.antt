pub mod RecordParts
pub mod RecordSpellings
pub mod WritingLaws
pub mod Interned
pub mod PoolLaws
