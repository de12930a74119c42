-- Swaps on half-sides, and in the room of the code.
pub mod Halves
pub mod Rooms
