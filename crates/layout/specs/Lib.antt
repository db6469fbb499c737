pub mod Order
pub mod Bytes
