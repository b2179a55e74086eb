pub mod States
pub mod Facts
pub mod Refusals
pub mod Contents
pub mod Effects
pub mod Events
pub mod Replies
pub mod Runs
