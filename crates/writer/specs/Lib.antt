pub mod Write
pub mod Writable
pub mod Back
