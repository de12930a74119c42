-- The sum of the pairs' normals: document 01, "Slopes". Assumes nothing.
use Rattle.std.specs.Prelude.{cond, List, [], ◌∷◌, map, ℕ, ℤ, pos, neg_ℤ, ◌+ℤ◌, ◌-ℤ◌, ◌*ℤ◌}
use Rattle.std.specs.Int.Signed.{lt_z}
use Rattle.whole.specs.Range.{Within}
use Rattle.whole.specs.Turn.{across, climb}
use Rattle.survey.specs.Limits.{most_coordinate}
use Rattle.survey.specs.Survey.{Survey, place_of}
use Rattle.normal.specs.declared.Step.{Step}
use Rattle.normal.specs.declared.Normal.{Normal}
use Rattle.nearest.specs.Nearest.{neighbours}

-- 'NX = dy1·dz2 - dz1·dy2, NY = dz1·dx2 - dx1·dz2, NZ = dx1·dy2 - dy1·dx2.'
abbrev pub normal_of : Step → Step → Normal
normal_of a b =
    record {
      nx = a.dy *ℤ b.dz -ℤ a.dz *ℤ b.dy;
      ny = a.dz *ℤ b.dx -ℤ a.dx *ℤ b.dz;
      nz = a.dx *ℤ b.dy -ℤ a.dy *ℤ b.dx;
    }

abbrev pub none : Normal
none = record { nx = pos 0; ny = pos 0; nz = pos 0 }

-- 'A pair with NZ = 0 is skipped; with NZ negative all three are negated. Sum them.' One of the three, n, for a pair with the given NZ.
abbrev pub added_part : ℤ → ℤ → ℤ → ℤ
added_part sum n nz = cond (lt_z nz (pos 0)) (sum +ℤ neg_ℤ n) (cond (lt_z (pos 0) nz) (sum +ℤ n) sum)

unfoldable pub added : Normal → Normal → Normal
added sum n =
    record {
      nx = added_part sum.nx n.nx n.nz;
      ny = added_part sum.ny n.ny n.nz;
      nz = added_part sum.nz n.nz n.nz;
    }

-- 'For each pair (i before j in that order)': the pairs of the step a and a later one; then all pairs.
abbrev pub added_with : Normal → Step → List Step → Normal
added_with sum a [] = sum
added_with sum a (b ∷ l) = added_with (added sum (normal_of a b)) a l

abbrev pub added_all : Normal → List Step → Normal
added_all sum [] = sum
added_all sum (a ∷ l) = added_all (added_with sum a l) l

-- The step '(dx1,dy1,dz1)' from station i to station k, where h stands in the place of z.
abbrev pub step_to : Survey → (ℕ → ℤ) → ℕ → ℕ → Step
step_to s h i k = record { dx = across (place_of s i) (place_of s k); dy = climb (place_of s i) (place_of s k); dz = h k -ℤ h i }

-- The sums NX, NY, NZ of station i.
unfoldable pub normal_at : Survey → (ℕ → ℤ) → ℕ → Normal
normal_at s h i = added_all none (map (step_to s h i) (neighbours s i))

-- A step of two stations whose heights differ by at most m, and a sum of which each part is at most m.
pub record Short (m : ℕ) (a : Step) : Type 0 where
  pub dx : Within most_coordinate a.dx
  pub dy : Within most_coordinate a.dy
  pub dz : Within m a.dz

pub record Small (m : ℕ) (n : Normal) : Type 0 where
  pub nx : Within m n.nx
  pub ny : Within m n.ny
  pub nz : Within m n.nz
