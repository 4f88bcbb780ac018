pub mod ByteLaws
pub mod LearnLaws
pub mod BlankLaws
pub mod DoneLaws
