pub mod Demand2
pub mod Means
pub mod Firm
pub mod Demand3
pub mod Cases
