pub mod Spelling
pub mod Forms
pub mod Tokens
pub mod Scanning
pub mod Laws
