pub mod Calls
pub mod Components
pub mod Names
pub mod Products
pub mod ProductLaws
