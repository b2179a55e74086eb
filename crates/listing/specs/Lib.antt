pub mod Listing
pub mod Text
