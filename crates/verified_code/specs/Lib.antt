pub mod Paths
pub mod Operands
pub mod Verified
pub mod Sound
pub mod Laws
