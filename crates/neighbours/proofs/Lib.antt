-- HalfLaws, RecordLaws: half-sides; records and list undo each other, and no second records say the same.
-- RoomLaws, ChainLaws: triangles at the front of a list; searches among half-sides.
-- MoveLaws: half-sides chained by their higher station, then by their lower one.
-- CellLaws, SettleLaws, FacingLaws, LaidLaws: the half-sides of a side; sides settled in order, one of them, all of them.
-- KnownRecords: two triangles, by computation.
pub mod HalfLaws
pub mod RecordLaws
pub mod RoomLaws
pub mod ChainLaws
pub mod MoveLaws
pub mod CellLaws
pub mod SettleLaws
pub mod FacingLaws
pub mod LaidLaws
pub mod KnownRecords
