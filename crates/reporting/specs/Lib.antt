-- What the report programs write for a survey's text, in one piece and piece by piece.
pub mod Reporting
