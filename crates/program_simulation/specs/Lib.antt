pub mod Stands
pub mod Image
pub mod Following
pub mod Laws
