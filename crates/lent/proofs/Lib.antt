pub mod Locals
pub mod Lent
pub mod Refused
pub mod Structs
