pub mod BoolLaws
pub mod Digits
pub mod OptionLaws
pub mod Paths
pub mod ResultLaws
pub mod TextLaws
pub mod Units
