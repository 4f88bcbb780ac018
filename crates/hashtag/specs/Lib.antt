pub mod Hashtag
pub mod Sign
pub mod Find
pub mod Listed
pub mod Means
pub mod Seek
