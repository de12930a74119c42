-- The five slopes at a station: document 01, "Slopes". h is the height of each station. Assumes nothing.
use Rattle.std.specs.Prelude.{List, [], ◌∷◌, ℕ, ◌*◌, ℤ, pos, neg_ℤ, nat_abs, ◌+ℤ◌, ◌*ℤ◌}
use Rattle.whole.specs.Cut.{cut}
use Rattle.whole.specs.Range.{Within}
use Rattle.whole.specs.Rounding.{rounded}
use Rattle.survey.specs.Limits.{most_slope}
use Rattle.survey.specs.Survey.{Survey}
use Rattle.slopes.specs.declared.slope.Five.{Five}
use Rattle.slopes.specs.declared.slope.First.{First}
use Rattle.normal.specs.Normal.{normal_at}

-- 'Each quotient is rounded to the nearest whole number', 'a half .. away from zero', 'and cut to within ±268,435,456'
abbrev pub slope : ℤ → ℕ → ℤ
slope n d = cut most_slope (rounded n d)

-- 'p = -65536·NX/NZ and q = -65536·NY/NZ.'
unfoldable pub slope_p : Survey → (ℕ → ℤ) → ℕ → ℤ
slope_p s h i = let sum = normal_at s h i in slope (neg_ℤ (pos 65536) *ℤ sum.nx) (nat_abs sum.nz)

unfoldable pub slope_q : Survey → (ℕ → ℤ) → ℕ → ℤ
slope_q s h i = let sum = normal_at s h i in slope (neg_ℤ (pos 65536) *ℤ sum.ny) (nat_abs sum.nz)

abbrev pub first_at : Survey → (ℕ → ℤ) → ℕ → First
first_at s h i = record { p = slope_p s h i; q = slope_q s h i }

-- 'The second slopes repeat this with p and q in the place of z: r from p's NX, t from q's NY, and s = -(p's NY + q's NX)/(2·NZ)', with
-- 'no further factor 65,536'. p and q are those of every station.
unfoldable pub slope_r : Survey → (ℕ → ℤ) → ℕ → ℤ
slope_r s p i = let sum = normal_at s p i in slope (neg_ℤ sum.nx) (nat_abs sum.nz)

unfoldable pub slope_s : Survey → (ℕ → ℤ) → (ℕ → ℤ) → ℕ → ℤ
slope_s s p q i =
    let of-p = normal_at s p i in
    let of-q = normal_at s q i in
    slope (neg_ℤ (of-p.ny +ℤ of-q.nx)) (2 * nat_abs of-p.nz)

unfoldable pub slope_t : Survey → (ℕ → ℤ) → ℕ → ℤ
slope_t s q i = let sum = normal_at s q i in slope (neg_ℤ sum.ny) (nat_abs sum.nz)

-- The five of station i; the cut p and q are those that r, s and t are made of.
abbrev pub five_at : Survey → (ℕ → ℤ) → (ℕ → ℤ) → ℕ → Five
five_at s p q i = record { p = p i; q = q i; r = slope_r s p i; s = slope_s s p q i; t = slope_t s q i }

-- 'Order for each station: p, q, r, s, t.'
abbrev pub row : Five → List ℤ
row f = f.p ∷ f.q ∷ f.r ∷ f.s ∷ f.t ∷ []

abbrev pub slopes_at : Survey → (ℕ → ℤ) → ℕ → List ℤ
slopes_at s h i = row (five_at s (slope_p s h) (slope_q s h) i)

-- Each of five is within the cut.
pub record IsCut (f : Five) : Type 0 where
  pub p : Within most_slope f.p
  pub q : Within most_slope f.q
  pub r : Within most_slope f.r
  pub s : Within most_slope f.s
  pub t : Within most_slope f.t
