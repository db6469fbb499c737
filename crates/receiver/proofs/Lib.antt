pub mod Receiving
pub mod Ranges
pub mod Quiet
