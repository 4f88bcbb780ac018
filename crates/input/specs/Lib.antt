pub mod Front
pub mod Script
pub mod Images
