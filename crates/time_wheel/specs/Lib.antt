pub mod TimeWheel
pub mod Queues
