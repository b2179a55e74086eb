pub mod Tree
pub mod Denominator
pub mod Laid
