-- The numbered steps of a height in f64.
pub mod Real
pub mod Quintic
