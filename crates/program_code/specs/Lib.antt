pub mod Shapes
pub mod Names
pub mod Code
pub mod Documents
pub mod Constructors
pub mod Program
