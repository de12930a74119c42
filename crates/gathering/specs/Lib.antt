-- The values of a text.
pub mod Values
