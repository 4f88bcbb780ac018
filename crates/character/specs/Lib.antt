pub mod Traits
pub mod Stretch
pub mod Read
