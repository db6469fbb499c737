pub mod Stride
