pub mod TraitLaws
pub mod WhiteLaws
pub mod CharacterLaws
pub mod PlaceLaws
