pub mod FrontLaws
pub mod ScriptLaws
pub mod ImagesLaws
