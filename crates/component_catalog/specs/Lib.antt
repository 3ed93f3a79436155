pub mod Classes
pub mod Properties
pub mod Events
pub mod Methods
pub mod Laws
