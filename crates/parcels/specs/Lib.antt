-- The two parts of a triangle, their areas, and the served and the unserved ground of a mesh.
pub mod Parts
pub mod Area
pub mod Served
