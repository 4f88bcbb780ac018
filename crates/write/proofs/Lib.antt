pub mod SpanLaws
pub mod StartLaws
pub mod PlainLaws
pub mod WriteLaws
