-- StepLaws: the whole numbers of the steps and their ranges. LikewiseLaws: p03, p04, p05, p12 and p13 written out.
pub mod StepLaws
pub mod LikewiseLaws
