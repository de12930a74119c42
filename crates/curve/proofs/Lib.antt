-- HeldLaws, CrossLaws: a number that a call passes on; what `xor` says of its two.
-- WeightLaws: the table has the binomial rule, and each row its sum; T10.
-- BracketLaws, SearchLaws: a bracket exists, is the first change and the only one, in order of height; the loop that finds it.
-- StraightLaws: the straight curve's bracket is one quotient.
-- CurveLaws, ControlLaws: either curve's ends are its stations; the control heights and their weighted sum fit.
-- SpotLaws, PrintedLaws: what is drawn on a side is one spot or none, in order of height; T8.
pub mod HeldLaws
pub mod CrossLaws
pub mod WeightLaws
pub mod BracketLaws
pub mod SearchLaws
pub mod StraightLaws
pub mod CurveLaws
pub mod ControlLaws
pub mod SpotLaws
pub mod PrintedLaws
