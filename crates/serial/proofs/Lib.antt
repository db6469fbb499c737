pub mod Sending
pub mod Ranges
pub mod Quiet
