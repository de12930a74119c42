-- What filling a room leaves in it.
pub mod FillLaws
