pub mod Taken
pub mod Keeps
pub mod Idles
pub mod Rounds
pub mod Busy
pub mod Reached
pub mod Down
