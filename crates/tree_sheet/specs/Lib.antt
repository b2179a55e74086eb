pub mod Held
pub mod Slices
pub mod Passes
pub mod Calls
pub mod Lines
pub mod Replay
