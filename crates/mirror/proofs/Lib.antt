-- WholeLaws, FloatLaws: negated whole numbers and opposite f64 numbers stay so. NormalLaws, SlopeLaws: 'negate every slope exactly'.
-- CurveLaws: D, E and the curve along a side. HeightLaws: heights between stations. MeshLaws, JobLaws: the answers of the jobs.
pub mod WholeLaws
pub mod FloatLaws
pub mod NormalLaws
pub mod SlopeLaws
pub mod CurveLaws
pub mod HeightLaws
pub mod MeshLaws
pub mod JobLaws
