pub mod RuleLaws
pub mod BesideTurnLaws
pub mod StepLaws
pub mod CountLaws
pub mod KnownLaws
pub mod FourLaws
pub mod LookLaws
