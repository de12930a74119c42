-- A room that holds records and the sides in order, with the marks in it. Its m corners come first, behind them the m neighbours, behind
-- those the half-sides in order. The mark of a half-side is the highest of the sixteen bits of its neighbour. Assumes nothing.
use Rattle.std.specs.Prelude.{Bool, cond, ◌&&◌, List, ◌≡◌, ℕ, ◌+◌, ◌*◌, ◌/◌, ◌%◌, ◌≤◌, ◌<◌, leb, ltb, eqb, ℤ, length, get_or}
use Rattle.std.proofs.Math.Option.{Option, none, some}
use Rattle.lists.specs.Table.{table}
use Rattle.trace.specs.Lines.{Line, lines}
use Rattle.neighbours.specs.Half.{corner_in}
use Rattle.neighbours.specs.Room.{threes}
use Rattle.tracing.specs.Tracing.{Halves}
use Rattle.tracing.specs.Written.{below_in}

-- The room with the marks of the first k half-sides taken off; and the marks.
abbrev pub is_among : ℕ → ℕ → ℕ → Bool
is_among m k i = leb m i && ltb i (m + k)

abbrev pub cleared_at : ℕ → ℕ → List ℕ → ℕ → ℕ
cleared_at m k room i = cond (is_among m k i) (get_or room i 0 % 32768) (get_or room i 0)

unfoldable pub cleared : ℕ → ℕ → List ℕ → List ℕ
cleared m k room = table (cleared_at m k room) (length room)

unfoldable pub marks_in : ℕ → List ℕ → List ℕ
marks_in m room = table (λ h. get_or room (m + h) 0 / 32768) m

-- What lies across half-side h: none where the number is 32767.
abbrev pub numbered : ℕ → Option ℕ
numbered e = cond (eqb e 32767) none (some e)

abbrev pub neighbour_in : ℕ → List ℕ → ℕ → ℕ
neighbour_in m room h = get_or room (m + h) 0

-- The half-side of entry i.
abbrev pub half_at : ℕ → List ℕ → ℕ → ℕ
half_at m room i = get_or room (2 * m + i) 0

-- The mesh that stands in a room, whatever marks are in it.
abbrev pub halves_of : ℕ → List ℕ → Halves
halves_of m base = record { corner = corner_in base; across = λ h. numbered (neighbour_in m base h); half = half_at m base; steps = m }

abbrev pub halves_in : ℕ → List ℕ → Halves
halves_in m room = halves_of m (cleared m m room)

-- Whole triangles, so few that a half-side is a number below 32766; corners are stations below n, and neighbours half-sides.
pub record Meshed (m n : ℕ) (base : List ℕ) : Type 0 where
  pub triangles : ℕ
  pub whole : m ≡ 3 * triangles
  pub small : m ≤ 32766
  pub long : 2 * m ≤ length base
  pub corners : (h : ℕ) → h < m → corner_in base h < n
  pub neighbours : (h : ℕ) → h < m → (neighbour_in m base h ≡ 32767 → ⊥) → neighbour_in m base h < m

-- The first `count` entries are half-sides too.
pub record Ready (m n count : ℕ) (base : List ℕ) : Type 0 where
  pub meshed : Meshed m n base
  pub listed : 2 * m + count ≤ length base
  pub halves : (i : ℕ) → i < count → half_at m base i < m

-- The lines of a level over the t triangles whose corners stand at the front of a room.
abbrev pub lines_in : List ℤ → ℤ → ℕ → List ℕ → List Line
lines_in z level t room = lines (threes t room) (below_in z level) (length z)
