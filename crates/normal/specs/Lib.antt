-- The normals of the pairs of neighbours, and their sum.
pub mod Normal
