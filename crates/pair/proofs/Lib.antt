pub mod WalkLaws
pub mod ChangeLaws
pub mod OverlapLaws
pub mod ProfileLaws
pub mod PairLaws
pub mod LimitLaws
