-- AmongLaws: the stations of the sweep's chains are among those swept. ClimbLaws: a chain climbed in a slice is the sweep's. WrittenLaws: what
-- a list says when sides were written into it. OutlinedLaws: the sides of both chains written are the hull's.
pub mod AmongLaws
pub mod ClimbLaws
pub mod WrittenLaws
pub mod OutlinedLaws
