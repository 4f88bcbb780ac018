pub mod TableLaws
pub mod TurnLaws
pub mod ReachLaws
pub mod FirstTokenLaws
pub mod StartLaws
