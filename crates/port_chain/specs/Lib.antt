pub mod Link
pub mod Pairs
pub mod Chain
