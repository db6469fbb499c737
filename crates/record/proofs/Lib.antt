pub mod Tests
pub mod Accepted
pub mod Written
pub mod Pairs
