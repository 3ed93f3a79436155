pub mod Tags
pub mod FirstConstructor
pub mod Owned
pub mod NamedEvents
pub mod NamedIds
pub mod NativeEvents
pub mod EventLevels
pub mod OwnEvents
