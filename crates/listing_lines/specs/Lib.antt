pub mod Buffer
pub mod Lines
pub mod Nearest
pub mod Text
