pub mod Structs
