pub mod Never
pub mod Parts
pub mod Upward
pub mod Downward
