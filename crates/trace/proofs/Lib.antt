-- What is shown of the lines. From any mesh: counts of sides; one step over a triangle; one walk; the order of sides; starts, one line,
-- all lines.
pub mod CountLaws
pub mod StepLaws
pub mod WalkLaws
pub mod SideLaws
pub mod OrderLaws
pub mod StartLaws
pub mod LineLaws
pub mod TraceLaws
-- From a sound list of triangles: its left corners and its crossed sides; the rule has one answer; THE LINES (`lines-meet`,
-- `lines-unique`).
pub mod MeshLaws
pub mod CrossedLaws
pub mod OnlyLaws
pub mod LinesLaws
-- What a line record says. T3 to T6.
pub mod RecordLaws
pub mod KnownLines
