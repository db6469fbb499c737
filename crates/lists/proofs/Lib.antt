pub mod Replays
pub mod Spells
pub mod Looks
pub mod Demand3
pub mod Offered
pub mod Cuts
pub mod Replayed
