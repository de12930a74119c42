-- `six_heights` meets its contract: each of its six expressions fits an i64. Assumes nothing.
use mathlib.Core.List.{[], ◌∷◌}
use lib.IntN.{ℤ}
use mir.Syntax.{w64}
use Rattle.whole.proofs.Expression.{Signed, var, lit, ◌⊗◌, holds}
use Rattle.curve.specs.Curve.{most_d}
use Rattle.curve.proofs.ControlLaws.{own, next, second, second_back, next_back}
use Rattle.curve.proofs.smooth.six_heights.Goals as goal

abbrev times : ℤ → ℤ → Signed
times n d = lit n ⊗ var d most_d

pub returns : goal.returns
returns c =
    let a = c.args in
    λ i.
    holds w64 (own a.z1) (tt, c.requires.0) tt i
    ∷ holds w64 (next a.z1 a.d1) ((tt, c.requires.0), (tt, c.requires.1)) tt i
    ∷ holds w64 (second a.z1 a.d1 a.e1) (((tt, c.requires.0), (tt, c.requires.1)), c.requires.2) tt i
    ∷ holds w64 (second_back a.z2 a.d2 a.e2) (((tt, c.requires.3), (tt, c.requires.4)), c.requires.5) tt i
    ∷ holds w64 (next_back a.z2 a.d2) ((tt, c.requires.3), (tt, c.requires.4)) tt i
    ∷ holds w64 (own a.z2) (tt, c.requires.3) tt i
    ∷ []
