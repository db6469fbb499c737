pub mod Writes
pub mod Steps
pub mod Passes
pub mod Loaded
pub mod Front
pub mod Back
pub mod Moves
