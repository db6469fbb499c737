pub mod Reload
