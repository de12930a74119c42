-- A survey with its tags and levels; the values of its lines, and which are those of a right text; its text, and the lines of it; what a text says; what the writer answers;
-- which surveys have a text.
pub mod Filed
pub mod Values
pub mod Valued
pub mod Rendering
pub mod Lines
pub mod Scan
pub mod Writer
pub mod Form
