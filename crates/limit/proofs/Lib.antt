pub mod AgreeLaws
pub mod RefusesLaws
pub mod Former
