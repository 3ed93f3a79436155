pub mod Playable
pub mod Playing
pub mod Printed
