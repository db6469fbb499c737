pub mod Levels
pub mod Keeps
pub mod Totals
pub mod Heard
pub mod Steps
