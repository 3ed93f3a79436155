pub mod Rooms
pub mod Letters
pub mod Dots
pub mod EventTypes
pub mod Fitting
pub mod Places
pub mod CodeRules
pub mod AllReaders
