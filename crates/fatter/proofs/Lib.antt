-- QuadLaws: a convex quadrilateral cut by either diagonal holds the same places. ExchangeLaws: which triangle a swap makes of which.
-- FreshLaws: the new side is none before. KeptLaws: a swap keeps a mesh, and the slack falls. EndLaws: the swaps end.
-- RelistedLaws, FatterLaws: the order of the list does not matter; the second kind is a mesh in which no side may be swapped.
-- KnownMeshes: a tie, a kite, a house, by computation.
pub mod QuadLaws
pub mod ExchangeLaws
pub mod FreshLaws
pub mod KeptLaws
pub mod EndLaws
pub mod RelistedLaws
pub mod FatterLaws
pub mod KnownMeshes
