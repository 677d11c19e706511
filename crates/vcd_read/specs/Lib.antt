pub mod Words
pub mod Codes
pub mod Kept
pub mod Parts
pub mod Reading
pub mod Sound
pub mod Grammar
