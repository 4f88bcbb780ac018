pub mod HalvingLaws
pub mod SeekLaws
pub mod LookupLaws
pub mod LimitLaws
