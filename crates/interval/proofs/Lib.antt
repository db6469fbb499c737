pub mod Ranges
pub mod Counts
pub mod Pulses
pub mod Decades
pub mod Accepted
pub mod Refused
pub mod Outcomes
