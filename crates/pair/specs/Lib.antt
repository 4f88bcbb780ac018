pub mod Judged
pub mod Change
pub mod Walk
pub mod Pair
pub mod Means
