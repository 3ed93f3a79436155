pub mod LastNames
pub mod SameSources
