pub mod Grown
pub mod Made
pub mod Filled
