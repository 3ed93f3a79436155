pub mod FirstCodeSite
