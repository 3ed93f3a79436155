pub mod Lineages
