-- CheckLaws: what each check says, and the cases of `checked`. FitLaws: a survey passes exactly if it is fit; T11, T12. RankLaws: stations in
-- order by their ranks, and the lowest that stands where an earlier one does.
pub mod CheckLaws
pub mod FitLaws
pub mod RankLaws
