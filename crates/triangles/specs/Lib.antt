-- The order of the stations, the triangles of a survey, and the two chains that the code keeps.
pub mod Order
pub mod Chain
pub mod Mesh
pub mod Growth
