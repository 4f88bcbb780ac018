pub mod Reply
pub mod ImageReply
pub mod TokenReply
