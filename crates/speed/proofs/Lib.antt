pub mod Limits
pub mod Fractions
pub mod Nearest
pub mod Outcome
pub mod Chosen
pub mod Promises
