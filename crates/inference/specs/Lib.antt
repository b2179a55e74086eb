pub mod Table
pub mod Formulas
pub mod Bounds
pub mod Nearest
pub mod TwoPass
pub mod Worked
