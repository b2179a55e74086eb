pub mod Row
pub mod Sum
