pub mod Jump
pub mod Laps
