pub mod AnswerLaws
pub mod TakenLaws
pub mod MeansLaws
pub mod EndLaws
pub mod FillLaws
