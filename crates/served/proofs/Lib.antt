-- OutlineLaws: an area as the difference of two sums of products. FigureLaws: what the count of one triangle leans on. TallyLaws: the figures of many
-- triangles, one at a time. OwnLaws: the slopes that a style is given count as the survey's own. HandLaws: what is at hand for a level. JobLaws: the
-- answers, test by test.
pub mod OutlineLaws
pub mod FigureLaws
pub mod TallyLaws
pub mod OwnLaws
pub mod HandLaws
pub mod JobLaws
