pub mod Looks
pub mod Rounds
pub mod Taken
