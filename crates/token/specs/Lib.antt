pub mod Taken
pub mod Means
pub mod Ended
