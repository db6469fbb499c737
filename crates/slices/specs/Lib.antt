pub mod Shares
pub mod Cards
