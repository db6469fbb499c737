pub mod Faults
pub mod Accepted
pub mod Promises
