-- GridLaws, OutlineLaws: sums over pairs of stations; the sides of the outline. PageHull: the hull of the steps has the same sides.
-- SideLaws: how often sides are run. EulerLaws: one boundary, one number of triangles. BalanceLaws: triangles with the hull as their
-- boundary. MeshOfLaws: the page's triangles are a mesh. SoundLaws: every mesh is sound, and it and its lines have room.
-- KnownMeshes: T1, T2 and a hull with a station in the middle of a side, by computation.
pub mod KnownMeshes
pub mod GridLaws
pub mod OutlineLaws
pub mod PageHull
pub mod SideLaws
pub mod EulerLaws
pub mod BalanceLaws
pub mod MeshOfLaws
pub mod SoundLaws
