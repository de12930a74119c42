-- Every height negated: the survey, its slopes, and the heights at places.
pub mod Mirror
