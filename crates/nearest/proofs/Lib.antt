-- MemberLaws, NearestLaws, TakenLaws: what is in a list; `sorted` is by rising distance, ties to the lower number; the taken are the nearest.
-- DistanceLaws, PlacedLaws, FourLaws: distances are bounded; what a fit survey says of its places; the step of a search.
-- LineLaws, NeighbourLaws: a station off the line exists where one is needed; what the code keeps are the neighbours.
pub mod MemberLaws
pub mod NearestLaws
pub mod DistanceLaws
pub mod PlacedLaws
pub mod FourLaws
pub mod LineLaws
pub mod NeighbourLaws
pub mod TakenLaws
