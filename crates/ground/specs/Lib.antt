-- The segments that are drawn of a level, how they lie to stations and to each other.
pub mod Segments
pub mod Sides
pub mod Meeting
pub mod Ground
