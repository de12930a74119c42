-- The slopes that a style is given, and the spots by them.
pub mod GivenLaws
