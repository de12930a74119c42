-- CircleLaws: what the sign of the circle number means, and what a positive one says of the two new triangles. RangeLaws: its numbers fit 64 bits.
pub mod CircleLaws
pub mod RangeLaws
