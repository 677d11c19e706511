pub mod Lanes
pub mod Vectors
pub mod Differing
