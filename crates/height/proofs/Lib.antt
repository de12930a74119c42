-- ExactLaws: each whole number is converted exactly. DivisorLaws: no divisor is 0. HeightLaws: the three kinds, by the outline. JobLaws: a
-- mesh and the survey's slopes in the rooms, and the job's answer. KnownHeights: known heights. UnderLaws: how large a sum, a product and a
-- quotient can be. FiniteLaws: every height is finite.
pub mod ExactLaws
pub mod DivisorLaws
pub mod HeightLaws
pub mod JobLaws
pub mod KnownHeights
pub mod UnderLaws
pub mod FiniteLaws
