pub mod Choices
pub mod Outcomes
pub mod Accepted
pub mod Counting
pub mod Overflowing
pub mod Rollovers
pub mod Rounds
pub mod Files
