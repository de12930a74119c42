-- A line from neighbour to neighbour: document 01, "Lines", over half-sides. A mesh is given by the corner that each half-side starts
-- from and by what lies across it; `below` gives the stations below the level. Assumes nothing.
use Rattle.std.specs.Prelude.{Bool, false, cond, List, [], ◌∷◌, map, ℕ, zero, suc, eqb}
use Rattle.std.specs.Bool.{beq}
use Rattle.std.proofs.Math.Option.{Option, none, some}
use Rattle.trace.specs.Side.{Directed, reversed}
use Rattle.neighbours.specs.Half.{after, before, runs_by}

-- A line that has come in over half-side h leaves over the other crossed side of its triangle: the one from the third corner to the end
-- that is on the other side of the level.
unfoldable pub exit : (ℕ → ℕ) → (ℕ → Bool) → ℕ → ℕ
exit corner below h = cond (beq (below (corner (before h))) (below (corner (after h)))) (before h) (after h)

-- The half-sides over which a line leaves one triangle after another, from h on: 'until a hull side', or until what lies across is the
-- start s.
abbrev pub is_at : ℕ → Option ℕ → Bool
is_at s none = false
is_at s (some h) = eqb h s

abbrev pub enter : Option ℕ → (ℕ → List ℕ) → List ℕ
enter none go = []
enter (some h) go = go h

abbrev pub leave : ℕ → ℕ → Option ℕ → (ℕ → List ℕ) → List ℕ
leave s g e go = cond (is_at s e) [] (g ∷ enter e go)

unfoldable pub walk_by : (ℕ → ℕ) → (ℕ → Option ℕ) → (ℕ → Bool) → ℕ → ℕ → ℕ → List ℕ
walk_by corner across below s zero h = []
walk_by corner across below s (suc fuel) h =
    leave s (exit corner below h) (across (exit corner below h)) (walk_by corner across below s fuel)

-- The line that starts over half-side s, and the directed sides that it meets: the start as it runs into its triangle, the others as
-- they lead out of theirs.
abbrev pub path_by : (ℕ → ℕ) → (ℕ → Option ℕ) → (ℕ → Bool) → ℕ → ℕ → List ℕ
path_by corner across below fuel s = s ∷ walk_by corner across below s fuel s

abbrev pub out_by : (ℕ → ℕ) → ℕ → Directed
out_by corner g = reversed (runs_by corner g)

abbrev pub met_by : (ℕ → ℕ) → List ℕ → List Directed
met_by corner [] = []
met_by corner (s ∷ p) = runs_by corner s ∷ map (out_by corner) p
