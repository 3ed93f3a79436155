pub mod TokensBefore
