pub mod Bytes
pub mod Order
