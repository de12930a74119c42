-- OrderLaws, SurveyLaws: the order, and what the sweep says of the triangles of a survey. ChainLaws to SweptLaws: the chains in their slices, one
-- station at a time. FitLaws: what a survey that passed the checks gives to the sweep, and that what the sweep makes are the page's triangles.
pub mod OrderLaws
pub mod ChainLaws
pub mod PutLaws
pub mod FanLaws
pub mod SliceLaws
pub mod GrowthLaws
pub mod SweptLaws
pub mod SurveyLaws
pub mod FitLaws
