pub mod BoolLaws
pub mod FirstLaws
pub mod SearchLaws
pub mod LaidLaws
pub mod EachLaws
pub mod WritingLaws
pub mod SetLaws
pub mod FilledLaws
