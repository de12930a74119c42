-- Bridge, Polynomial, Solver: orders and identities of ℤ, by `omega` and by computation.
-- RangeLaws, Expression: that signed arithmetic of the code fits its width.
-- RoundingLaws, CutLaws: what the rounded quotient and the cut mean, and that nothing else does.
-- SignLaws, OrderLaws, TurnLaws, BendLaws: the algebra and the order of places that the mesh leans on.
pub mod Bridge
pub mod Polynomial
pub mod Solver
pub mod RangeLaws
pub mod Expression
pub mod RoundingLaws
pub mod CutLaws
pub mod SignLaws
pub mod OrderLaws
pub mod TurnLaws
pub mod BendLaws
