pub mod Keeps
pub mod Traces
pub mod Running
