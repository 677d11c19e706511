pub mod Causes
pub mod Bytes
pub mod Files
pub mod Counts
pub mod MemorySink
pub mod MemoryStore
pub mod System
pub mod Honest
