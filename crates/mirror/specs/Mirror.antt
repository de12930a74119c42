-- 'A crew logs losses, another gains': document 02. Slopes and curves are negated exactly, f64 heights up to the sign of a zero.
-- Assumes nothing.
use Rattle.std.specs.Prelude.{Bool, map, Float, ℤ, pos, neg_ℤ, Ok, Err}
use Rattle.std.specs.Float.Ieee as Ieee
use Rattle.std.specs.Float.{fin}
use Rattle.survey.specs.Survey.{Survey, survey}
use Rattle.survey.specs.Answer.{Answer}
use Rattle.survey.specs.declared.answers.Height.{Height}
use Rattle.survey.specs.declared.answers.Height.TheVariants.{Own, Between, Outside}
use Rattle.survey.specs.declared.refusal.Refusal.{Refusal}
use Rattle.slopes.specs.declared.slope.Five.{Five}
use Rattle.curve.specs.declared.side.End.{End}

-- 'one survey is the other with every height negated'
abbrev pub negated : Survey → Survey
negated s = survey s.xs s.ys (map neg_ℤ s.zs)

-- 'Negating all heights must then negate every slope exactly': five slopes, and a station at an end of a side.
abbrev pub five_negated : Five → Five
five_negated f = record { p = neg_ℤ f.p; q = neg_ℤ f.q; r = neg_ℤ f.r; s = neg_ℤ f.s; t = neg_ℤ f.t }

abbrev pub end_negated : End → End
end_negated e =
    record { x = e.x; y = e.y; z = neg_ℤ e.z; p = neg_ℤ e.p; q = neg_ℤ e.q; r = neg_ℤ e.r; s = neg_ℤ e.s; t = neg_ℤ e.t }

-- The second is the first negated, bit for bit but for the sign; a zero may have either sign.
pub data Opposite : Float → Float → Type 0 where
  negation : (x : Float) → Opposite x (Ieee.neg x)
  zeros : (s t : Bool) → Opposite (fin s 0 (pos 0)) (fin t 0 (pos 0))

-- Two answers of the height job, the second the first with every height negated.
pub data Mirrored : Answer Height → Answer Height → Type 0 where
  own : (z : ℤ) → Mirrored (Ok (Own z)) (Ok (Own (neg_ℤ z)))
  between : {x y : Float} → Opposite x y → Mirrored (Ok (Between x)) (Ok (Between y))
  outside : Mirrored (Ok Outside) (Ok Outside)
  refused : (why : Refusal) → Mirrored (Err why) (Err why)
