-- Which station stands at a place, which triangle holds it, and the height there.
pub mod Held
