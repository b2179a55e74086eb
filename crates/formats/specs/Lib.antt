pub mod Bytes
pub mod NoisyTable
pub mod Publication
