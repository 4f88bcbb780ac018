pub mod Former
pub mod Agree
pub mod Refuses
