-- TriangleLaws: the triangles of a list of numbers, one by one. AnyLaws: what `any` over a range of numbers says. ConditionLaws: the conditions,
-- by the tests that the code makes.
pub mod TriangleLaws
pub mod AnyLaws
pub mod ConditionLaws
