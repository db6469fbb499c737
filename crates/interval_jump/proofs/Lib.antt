pub mod Down
pub mod Jumps
pub mod Laps
