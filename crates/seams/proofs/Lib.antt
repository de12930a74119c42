-- TestLaws: the test of a half-side, case by case. SewnLaws: where every half-side passes it, the triangles are sewn together.
pub mod TestLaws
pub mod SewnLaws
