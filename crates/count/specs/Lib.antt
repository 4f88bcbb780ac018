pub mod Turns
pub mod Steps
pub mod Four
pub mod Rules
pub mod Counting
