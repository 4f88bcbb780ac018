pub mod Turns
pub mod First
pub mod Starts
