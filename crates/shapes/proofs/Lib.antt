pub mod Sizes
pub mod Heights
pub mod Multiples
pub mod Firsts
