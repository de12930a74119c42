-- The loop that follows a line: what is left of it, marked and written on top of what is there, is all of it marked and written. Assumes
-- nothing.
use Prim.Native.Nat.{ℕ, ◌+◌, ◌-◌, ◌≤◌, ◌<◌}
use native.Mathlib.Omega.{arith}
use mathlib.Core.Path.{◌≡◌, refl, sym, ap, ◌∙◌, subst}
use mathlib.Core.Bool.{Bool}
use mathlib.Core.List.{List, [], ◌∷◌}
use lib.ListN.{length, set, length-set}
use Rattle.neighbours.specs.Half.{corner_in}
use Rattle.tracing.specs.Steps.{exit, enter}
use Rattle.tracing.specs.Tracing.{Halves, lower_of, mark_by, rest_from, line_at}
use Rattle.tracing.specs.Written.{side_by, sides_by, write_all, Left}
use Rattle.tracing.specs.Room.{cleared, marks_in, numbered, neighbour_in, halves_of, halves_in, Meshed}
use Rattle.tracing.proofs.CodeLaws.{rest_at, rest_none, rest-round, rest_on, mark_one, enter-hull, enter_on}
use Rattle.tracing.proofs.RoomLaws.{cleared_same_length}
use Rattle.tracing.proofs.WrittenLaws.{left_on, left-room, left_none, left-whole}

-- What follows the start, over a room whose mesh is `mesh`.
module _ (m n : ℕ) (below : ℕ → Bool) (start : ℕ) (room₀ sides₀ : List ℕ) (v : ℕ) where
  abbrev mesh : Halves
  mesh = halves_in m room₀

  abbrev pub all : List ℕ
  all = rest_from mesh below start m start

  abbrev rest : ℕ → ℕ → List ℕ
  rest = rest_at m (cleared m m room₀) below start

  abbrev pub Done : List ℕ → List ℕ → ℕ → Type 0
  Done room sides k = (cleared m m room ≡ cleared m m room₀) × Left mesh all (marks_in m room₀) sides₀ v (marks_in m room) sides k

  -- After j steps the line has come in over half-side h, and k is the next place.
  pub record Walking (room sides : List ℕ) (h k j : ℕ) : Type 0 where
    pub steps : j ≤ m
    pub within : h < m
    pub kept : cleared m m room ≡ cleared m m room₀
    pub wide : length room ≡ length room₀
    pub long : length sides ≡ length sides₀
    pub left : Left mesh (rest j h) (marks_in m room) sides k
        (mark_by mesh.across all (marks_in m room₀)) (write_all v (sides_by mesh.corner all) sides₀) (v + length all)

  pub walk_first : start < m → Walking room₀ sides₀ start v 0
  walk_first s =
      let z : m - 0 ≡ m = omega arith in
      let e = ap (λ fuel. rest_from mesh below start fuel start) (sym z) in
      record {
        steps = omega arith;
        within = s;
        kept = refl;
        wide = refl;
        long = refl;
        left =
            record {
              marked = ap (λ p. mark_by mesh.across p (marks_in m room₀)) e;
              written = ap (λ p. write_all v (sides_by mesh.corner p) sides₀) e;
              place = ap (λ p. v + length p) e;
            };
      }

  -- No step is left.
  pub walk-over : {room sides : List ℕ} {h k j : ℕ} → Walking room sides h k j → m ≤ j → Done room sides k
  walk-over {h = h} {j = j} w l = (w.kept, left_none (rest_none m (cleared m m room₀) below start j h l) w.left)

  -- One step: the line leaves over g, and e lies across.
  module _ {room sides : List ℕ} {h k j : ℕ} (w : Walking room sides h k j) (more : j < m) {g e : ℕ}
      (p : g ≡ exit (corner_in (cleared m m room)) below h) (q : e ≡ neighbour_in m (cleared m m room) g) where
    exit_is : g ≡ exit (corner_in (cleared m m room₀)) below h
    exit_is = p ∙ ap (λ t. exit (corner_in t) below h) w.kept

    across_is : e ≡ neighbour_in m (cleared m m room₀) g
    across_is = q ∙ ap (λ t. neighbour_in m t g) w.kept

    pub walk-round : start < 32767 → e ≡ start → Done room sides k
    walk-round s f = (w.kept, left_none (rest-round m (cleared m m room₀) below start j h more exit_is across_is s f) w.left)

    module _ (f : e ≡ start → ⊥) where
      on : rest j h ≡ g ∷ enter (numbered e) (rest (j + 1))
      on = rest_on m (cleared m m room₀) below start j h more exit_is across_is f

      pub walk-room : k + 1 ≤ v + length all
      walk-room = left-room g _ w.left on

      -- Its side is marked and written.
      module _ (marked : List ℕ) {written : List ℕ} (kept : cleared m m marked ≡ cleared m m room)
          (put : marks_in m marked ≡ set (marks_in m room) (lower_of g (numbered e)) 1)
          (wrote : written ≡ set sides k (side_by (corner_in (cleared m m room)) g)) where
        after-side : Left mesh (enter (numbered e) (rest (j + 1))) (marks_in m marked) written (k + 1)
            (mark_by mesh.across all (marks_in m room₀)) (write_all v (sides_by mesh.corner all) sides₀) (v + length all)
        after-side =
            left_on g _ w.left on (mark_one m (cleared m m room₀) (marks_in m room) g across_is put)
            (wrote ∙ ap (λ t. set sides k (side_by (corner_in t) g)) w.kept)

        pub walk-hull : e ≡ 32767 → Done marked written (k + 1)
        walk-hull z = (kept ∙ w.kept, left_none (enter-hull e (rest (j + 1)) z) after-side)

        pub walk_on : Meshed m n (cleared m m room₀) → g < m → (e ≡ 32767 → ⊥) → Walking marked written e (k + 1) (j + 1)
        walk_on meshed l z =
            record {
              steps = omega (arith, more);
              within = omega (arith, across_is, meshed.neighbours g l (λ t. z (across_is ∙ t)));
              kept = kept ∙ w.kept;
              wide = cleared_same_length m room₀ marked (kept ∙ w.kept);
              long = ap length wrote ∙ length-set sides k _ ∙ w.long;
              left = subst (λ t. Left mesh t (marks_in m marked) written (k + 1) (mark_by mesh.across all (marks_in m room₀)) (write_all v (sides_by mesh.corner all) sides₀) (v + length all)) (enter_on e (rest (j + 1)) z) after-side;
            }

-- ---- a line with its start
module _ (m n : ℕ) (below : ℕ → Bool) (s : ℕ) (room room₁ : List ℕ) (kept : cleared m m room₁ ≡ cleared m m room) where
  -- What follows the start is the same with the start marked.
  pub follow-length : length (all m n below s room₁ [] 0) + 1 ≡ length (line_at (halves_in m room) below s)
  follow-length = let e = ap (λ b. length (rest_from (halves_of m b) below s m s)) kept in omega (arith, e)

  -- The start first, then what follows it.
  pub walk-whole : {sides sides₁ sides₂ : List ℕ} {v e k : ℕ} (room₂ : List ℕ) → e ≡ neighbour_in m (cleared m m room) s
      → marks_in m room₁ ≡ set (marks_in m room) (lower_of s (numbered e)) 1 → sides₁ ≡ set sides v (side_by (corner_in (cleared m m room)) s)
      → Done m n below s room₁ sides₁ (v + 1) room₂ sides₂ k
      → (cleared m m room₂ ≡ cleared m m room)
      × Left (halves_in m room) (line_at (halves_in m room) below s) (marks_in m room) sides v (marks_in m room₂) sides₂ k
  walk-whole {sides₁ = sides₁} {sides₂} {v} {k = k} room₂ q put wrote done = (
    done.0 ∙ kept,
    left-whole (mark_one m (cleared m m room) (marks_in m room) s q put) wrote
        (subst (λ b. Left (halves_of m b) (rest_from (halves_of m b) below s m s) (marks_in m room₁) sides₁ (v + 1) (marks_in m room₂) sides₂ k) kept done.1),
  )
