pub mod ScalarLaws
pub mod TableLaws
pub mod SubpartLaws
pub mod LeadLaws
pub mod EncodingLaws
pub mod SequenceLaws
pub mod EncodedLaws
pub mod TextLaws
