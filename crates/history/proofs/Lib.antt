pub mod Tables
pub mod Shaped
pub mod Counts
pub mod Kept
pub mod Prints
pub mod Steps
pub mod Runs
pub mod Same
