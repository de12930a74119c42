-- How large a float is, and which heights are numbers. Assumes nothing.
use Rattle.std.specs.Prelude.{ℕ, ◌*◌, ◌^◌, ◌≤◌, T, Float, Ok, Err}
use Rattle.std.specs.Float.{nan, inf, fin, binary64}
use Rattle.std.specs.Float.Ieee.{up, down, fits}
use Rattle.survey.specs.Answer.{Answer}
use Rattle.survey.specs.declared.answers.Height.{Height}
use Rattle.survey.specs.declared.answers.Height.TheVariants.{Own, Between, Outside}

-- x is finite, and at most 2 ^ k in size.
abbrev pub Under : ℕ → Float → Type 0
Under k nan = ⊥
Under k (inf s) = ⊥
Under k (fin s m e) = m * up e ≤ 2 ^ k * down e

-- x is an f64 and a number: it is neither infinite nor what is not a number, and no larger than 2 ^ 661.
abbrev pub IsNumber : Float → Type 0
IsNumber x = T (fits binary64 x) × Under 661 x

-- The f64 of an answer, where it has one, is a number.
abbrev pub Finite : Answer Height → Type 0
Finite (Ok (Own z)) = Unit {0}
Finite (Ok (Between z)) = IsNumber z
Finite (Ok Outside) = Unit {0}
Finite (Err why) = Unit {0}
