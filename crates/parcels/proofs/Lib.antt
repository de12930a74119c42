-- AreaLaws: the areas into which two places cut a triangle. OutlineLaws: the outlines of a triangle's two parts. PartLaws: their areas.
-- RiseLaws: two levels over one triangle. GroundLaws: the sums over a mesh. BoundLaws: how large they get. EndLaws: levels above all readings,
-- and not above any. ReadingLaws: a reading counts where it is. ReportLaws: all of it. KnownGround: small surveys, by computation.
pub mod AreaLaws
pub mod OutlineLaws
pub mod PartLaws
pub mod RiseLaws
pub mod GroundLaws
pub mod BoundLaws
pub mod EndLaws
pub mod ReadingLaws
pub mod ReportLaws
pub mod KnownGround
