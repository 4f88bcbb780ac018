pub mod Halving
pub mod Lookup
pub mod Means
