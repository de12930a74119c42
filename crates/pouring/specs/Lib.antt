-- Bytes put into a lent room.
pub mod Poured
