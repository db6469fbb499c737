pub mod Values
pub mod Fields
pub mod Room
