pub mod Answers
pub mod Speed
pub mod Cards
