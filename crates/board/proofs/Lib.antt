pub mod Joined
pub mod Outcomes
pub mod PowerDown
pub mod Promises
pub mod Refused
pub mod Structs
