-- The tests of a line, its bytes, its digits read back, and that a line is read as a value exactly if it is that of the value.
pub mod LineLaws
pub mod BytesLaws
pub mod DigitLaws
pub mod SpellLaws
