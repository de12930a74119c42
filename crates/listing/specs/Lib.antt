-- Triangles by their three numbers, and the number by which the code sorts them.
pub mod Listed
