-- The lines of a survey and their spots, and what one preparation leaves for every level.
pub mod Lines
pub mod Prepared
