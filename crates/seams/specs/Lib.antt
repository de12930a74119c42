-- What is asked of the sides of a list of triangles, and the test of one half-side.
pub mod Sewn
