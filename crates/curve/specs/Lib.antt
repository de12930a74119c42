-- Document 01, "The curve along a side", and what demand 3 says of one side.
pub mod Below
pub mod Side
pub mod Weights
pub mod Curve
pub mod Bracket
pub mod Spot
