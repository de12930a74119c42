-- A part that can be asked, and one that cannot: what its flag is and what is left behind the reference. Assumes nothing.
use mathlib.Core.Path.{◌≡◌}
use mathlib.Core.Bool.{Bool, true, false, cond}
use lib.IntN.{ℤ}
use Rattle.parts.specs.Parts.{flag}

pub asked : {b : Bool} {x y : ℤ} (old : ℤ) → b ≡ true → x ≡ y → (1 ≡ flag b) × (x ≡ cond b y old)
asked old e f = (rw e, rw e f)

pub not_asked : {b : Bool} (y old : ℤ) → b ≡ false → (0 ≡ flag b) × (old ≡ cond b y old)
not_asked y old e = (rw e, rw e)
