-- Every slope is within the cut, whatever is cut. Assumes nothing.
use Prim.Native.Nat.{ℕ}
use lib.IntN.{ℤ}
use Rattle.whole.specs.Range.{Within}
use Rattle.whole.proofs.CutLaws.{cut-within}
use Rattle.survey.specs.Survey.{Survey}
use Rattle.survey.specs.Limits.{most_slope}
use Rattle.slopes.specs.Slopes.{slope_p, slope_q, slope_r, slope_s, slope_t, five_at, IsCut}

pub slope-p-cut : (s : Survey) (h : ℕ → ℤ) (i : ℕ) → Within most_slope (slope_p s h i)
unfolding slope_p
slope-p-cut s h i = cut-within most_slope _

pub slope-q-cut : (s : Survey) (h : ℕ → ℤ) (i : ℕ) → Within most_slope (slope_q s h i)
unfolding slope_q
slope-q-cut s h i = cut-within most_slope _

pub five-cut : (s : Survey) (p q : ℕ → ℤ) (i : ℕ) → Within most_slope (p i) → Within most_slope (q i) → IsCut (five_at s p q i)
unfolding slope_r slope_s slope_t
five-cut s p q i h k = record { p = h; q = k; r = cut-within most_slope _; s = cut-within most_slope _; t = cut-within most_slope _ }

-- 'cut to within ±268,435,456': all five slopes of every station.
pub slopes-cut : (s : Survey) (h : ℕ → ℤ) (i : ℕ) → IsCut (five_at s (slope_p s h) (slope_q s h) i)
slopes-cut s h i = five-cut s (slope_p s h) (slope_q s h) i (slope-p-cut s h i) (slope-q-cut s h i)
