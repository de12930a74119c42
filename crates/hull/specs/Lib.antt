-- The hull of a survey, and what makes a list of triangles a mesh of it.
pub mod Hull
pub mod MeshOf
