pub mod Ring
pub mod Sums
pub mod Form
pub mod Rows
pub mod Limits
pub mod Places
