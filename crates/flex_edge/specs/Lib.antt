pub mod Outside
pub mod Calls
pub mod Memory
pub mod MemoryCalls
pub mod Host
pub mod Whole
pub mod Feeding
pub mod Observing
