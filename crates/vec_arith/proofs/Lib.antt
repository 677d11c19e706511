pub mod Modulo
pub mod Operations
pub mod Signed
pub mod Powers
pub mod Logs
pub mod Moves
