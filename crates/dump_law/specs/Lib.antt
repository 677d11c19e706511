pub mod Plain
pub mod Steady
pub mod Dumping
pub mod Kept
