pub mod Command
pub mod Decimal
pub mod Entries
pub mod Seen
pub mod Sizes
