-- Forms and reading by them; the text of values; which line is the first not as expected; the limit of a text; a text in pieces.
pub mod Form
pub mod Written
pub mod Lines
pub mod Limit
pub mod Pieces
