pub mod Rounds
pub mod Answers
pub mod Fair
pub mod Promises
