pub mod Change
pub mod ChangeList
pub mod Applied
pub mod Answer
pub mod Walked
pub mod Means
