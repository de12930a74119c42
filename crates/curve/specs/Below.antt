-- What is below a level, and which sides it crosses: document 01, "The four jobs", and demand 3. Assumes nothing.
use Rattle.std.specs.Prelude.{Bool, ℤ}
use Rattle.std.specs.Bool.{xor}
use Rattle.std.specs.Int.Signed.{lt_z}

-- '"Below" means z less than the level; equal is not below.'
abbrev pub below : ℤ → ℤ → Bool
below level z = lt_z z level

-- 'one end is below the level and the other isn't'
abbrev pub is_crossed : ℤ → ℤ → ℤ → Bool
is_crossed level z1 z2 = xor (below level z1) (below level z2)
