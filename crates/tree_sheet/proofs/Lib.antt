pub mod Ended
pub mod Lending
pub mod Lined
pub mod Wider
pub mod Ran
pub mod Filled
