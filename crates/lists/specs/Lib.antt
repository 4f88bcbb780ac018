pub mod First
pub mod Laid
pub mod Each
pub mod Filled
pub mod Writing
