pub mod ReplyLaws
pub mod CheckedLaws
mod PartLaws
