pub mod Answers
pub mod Board
pub mod Outcomes
pub mod Lists
pub mod PowerDown
pub mod Joined
