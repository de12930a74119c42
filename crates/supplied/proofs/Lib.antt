-- QuickLaws: triangles that pass the quick test are woven. CheckLaws: the answer of the check, test by test.
pub mod QuickLaws
pub mod CheckLaws
