-- Steps from half-side to half-side; marks, and the two passes over a row of sides; the same over half-sides; in a room; over records.
pub mod Steps
pub mod Marks
pub mod Scan
pub mod Tracing
pub mod Written
pub mod Room
pub mod Lines
