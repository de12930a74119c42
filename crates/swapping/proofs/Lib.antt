-- HalfLaws: a swap keeps the twins. DrawnLaws: a swap on half-sides is a swap in the list. RoomLaws: what the code reads and writes.
-- HeldLaws: what the keys tell, and a swap in the rooms. AlongLaws: the loop over the swaps. ReadyLaws: what the neighbours leave is what it asks for.
pub mod HalfLaws
pub mod DrawnLaws
pub mod RoomLaws
pub mod HeldLaws
pub mod AlongLaws
pub mod ReadyLaws
