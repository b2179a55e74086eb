pub mod Hex
pub mod Lines
pub mod Mistakes
pub mod Spelling
pub mod Words
pub mod Play
pub mod Script
pub mod Parsing
