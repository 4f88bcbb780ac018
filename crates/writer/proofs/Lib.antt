pub mod WordLaws
pub mod LayLaws
pub mod PartLaws
pub mod WriteLaws
pub mod RoundTrip
pub mod LimitLaws
