-- MapLaws: what is true of the lines of every mesh of a survey. RoomLaws, DrawLaws: what one preparation gives to every level.
-- JobLaws: the answers, test by test.
pub mod RoomLaws
pub mod DrawLaws
pub mod JobLaws
pub mod MapLaws
