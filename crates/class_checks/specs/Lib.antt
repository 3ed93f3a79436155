pub mod CodeSites
