pub mod Chosen
pub mod Nearest
