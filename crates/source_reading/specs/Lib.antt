pub mod ClassTexts
pub mod CodeTexts
pub mod ParsedReaders
pub mod ReadSets
