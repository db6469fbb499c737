pub mod Script
pub mod Spelling
pub mod Demand3
pub mod Offered
pub mod Cuts
