pub mod Heard
pub mod Numbered
pub mod Numbers
pub mod Pairs
pub mod Ranks
pub mod Walks
pub mod WholeDispatch
