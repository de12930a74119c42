-- AlongLaws: places along the sides of a triangle. ShareLaws: where spots stand on their sides, and in which order. CutLaws: which corner a
-- level cuts off. SegmentLaws: how a segment lies in its triangle. MeetingLaws: what it is to cross properly. LevelLaws: two levels over one
-- triangle. StepLaws, DrawnLaws: the segments of the lines are those of the triangles. MapLaws: segments and stations on the whole map.
-- SideLaws, VertexLaws: what lies on the sides of the mesh. CoverLaws: the ground is covered. GroundLaws: all of it. KnownSegments: small
-- surveys, by computation.
pub mod AlongLaws
pub mod ShareLaws
pub mod CutLaws
pub mod SegmentLaws
pub mod MeetingLaws
pub mod LevelLaws
pub mod StepLaws
pub mod DrawnLaws
pub mod MapLaws
pub mod SideLaws
pub mod VertexLaws
pub mod CoverLaws
pub mod GroundLaws
pub mod KnownSegments
