pub mod Stability
pub mod DividedLaws
pub mod MarkedLaws
pub mod MeansLaws
pub mod Demand2
pub mod Demand3
pub mod CasesHold
