pub mod Copied
pub mod CopyWorld
pub mod Copying
pub mod Fuzzy
pub mod FuzzyRun
pub mod Triples
