-- How a line runs: document 01, "Lines". `left` gives the mesh by its left corners and `below` the stations below the level. Assumes
-- nothing.
use Rattle.std.specs.Prelude.{Bool, cond, List, [], ◌∷◌, ℕ, zero, suc}
use Rattle.std.specs.Bool.{beq}
use Rattle.std.proofs.Math.Option.{Option, none, some}
use Rattle.trace.specs.Side.{Directed, ◌⟶◌, is_same}

-- 'from triangle to triangle': a ⟶ b leads into the triangle left of it, whose third corner is c. The line leaves over the other
-- crossed side, the one from c to the end that is on the other side of the level than c, directed into the next triangle.
abbrev pub out : (ℕ → Bool) → Directed → Option ℕ → Option Directed
out below (a ⟶ b) none = none
out below (a ⟶ b) (some c) = some (cond (beq (below c) (below b)) (a ⟶ c) (c ⟶ b))

-- The crossed side that follows; none where the line is at the hull.
unfoldable pub next : (Directed → Option ℕ) → (ℕ → Bool) → Directed → Option Directed
next left below d = out below d (left d)

-- 'until a hull side', or 'until the start comes round; the start isn't repeated': the sides after d of a line that started at s.
-- fuel is a number of steps that is enough.
abbrev pub onward : Option Directed → Directed → (Directed → List Directed) → List Directed
onward none s go = []
onward (some d) s go = cond (is_same d s) [] (d ∷ go d)

unfoldable pub walk : (Directed → Option Directed) → Directed → ℕ → Directed → List Directed
walk follow s zero d = []
walk follow s (suc fuel) d = onward (follow d) s (walk follow s fuel)

-- All sides of the line that starts at s.
abbrev pub path : (Directed → Option Directed) → ℕ → Directed → List Directed
path follow fuel s = s ∷ walk follow s fuel s
