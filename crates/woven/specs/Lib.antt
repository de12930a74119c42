-- The check of a mesh that is handed in, and what it asks.
pub mod Accepted
pub mod Woven
