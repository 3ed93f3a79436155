pub mod Dispatch
pub mod Hearers
pub mod Hearing
pub mod Kept
pub mod Laws
pub mod Registered
