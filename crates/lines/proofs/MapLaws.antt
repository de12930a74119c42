-- What a map promises, for every mesh of a survey, every level and every style: demand 3 and document 01, "Lines". Assumes nothing.
--
-- What makes a list of triangles a mesh makes it sound (MeshLaws, `mesh-sound`), and lines ask for no more. Whether a line passes between
-- two joined stations is decided by their heights alone; the style only says where.
use mathlib.Core.Path.{◌≡◌, refl, sym, ap, ap₂, ◌∙◌}
use mathlib.Core.Bool.{Bool, true, false, not, xor, ◌&&◌, beq}
use mathlib.Core.List.{List}
use Prim.Native.Nat.{ℕ, ◌<◌}
use borrow.Author.Tests.{lt-ltb}
use lib.IntN.{ℤ}
use Rattle.sweep.specs.Sweep.{Three}
use Rattle.survey.specs.Survey.{Survey, count, height_of}
use Rattle.curve.specs.Below.{below, is_crossed as is_crossed_by}
use Rattle.curve.specs.Spot.{Drawn}
use Rattle.curve.proofs.CrossLaws.{true-xor, false-xor}
use Rattle.curve.proofs.SpotLaws.{side-bracket}
use Rattle.trace.specs.Side.{◌⟶◌, bit, left_corner, is_side}
use Rattle.trace.specs.Crossed.{is_crossed}
use Rattle.trace.specs.Lines.{Line, vertices}
use Rattle.trace.specs.Mesh.{count as count_of}
use Rattle.trace.specs.Promise.{Meets}
use Rattle.trace.proofs.LinesLaws.{lines-meet, lines-unique}
use Rattle.slopes.specs.Job.{slopes_of}
use Rattle.hull.specs.MeshOf.{MeshOf}
use Rattle.spots.specs.Lines.{is_below, lines_of, end_at, spot_on}
use Rattle.hull.proofs.SoundLaws.{mesh-sound}

module _ (s : Survey) (ts : List (Three ℕ)) (mesh : MeshOf s ts) (level : ℤ) where
  -- The lines follow the rules of the page, each crossed side is the side of one vertex, and they are the only list of lines of which
  -- this holds.
  pub map-meets : Meets ts (is_below s level) (count s) (lines_of s ts level)
  unfolding lines_of
  map-meets = lines-meet ts (is_below s level) (count s) (mesh-sound s ts mesh)

  pub map_only : (ls : List Line) → Meets ts (is_below s level) (count s) ls → ls ≡ lines_of s ts level
  unfolding lines_of
  map_only ls m = lines-unique ts (is_below s level) (count s) (mesh-sound s ts mesh) ls m

  module _ (i j : ℕ) (i-in : i < count s) (j-in : j < count s) (joined : is_side (left_corner ts) (i ⟶ j) ≡ true) where
    used : (k : ℕ) → k < count s → is_below s level k ≡ below level (height_of s k)
    used k h = ap (λ t. t && below level (height_of s k)) (lt-ltb k (count s) h)

    crossed_as : is_crossed (is_below s level) (i ⟶ j) ≡ is_crossed_by level (height_of s i) (height_of s j)
    unfolding is_crossed
    crossed_as = ap₂ (λ p q. not (beq p q)) (used i i-in) (used j j-in) ∙ differ (below level (height_of s i)) (below level (height_of s j))
      where
        differ : (p q : Bool) → not (beq p q) ≡ xor p q
        differ true true = sym (false-xor true true refl)
        differ true false = sym (true-xor true false refl)
        differ false true = sym (true-xor false true refl)
        differ false false = sym (false-xor false false refl)

    counted : count_of (i ⟶ j) (vertices (lines_of s ts level)) ≡ bit (is_crossed_by level (height_of s i) (height_of s j))
    counted = map-meets.each (i ⟶ j) ∙ ap (λ t. bit (t && is_crossed (is_below s level) (i ⟶ j))) joined ∙ ap bit crossed_as

    -- 'a joined pair carries exactly one drawn spot if one end is below the level and the other isn't': one vertex stands on the side,
    -- and its spot is the one that demand 3 draws there.
    pub one_spot : (style : ℕ) → is_crossed_by level (height_of s i) (height_of s j) ≡ true
        → (count_of (i ⟶ j) (vertices (lines_of s ts level)) ≡ 1)
        × Drawn style (end_at s (slopes_of s) i) (end_at s (slopes_of s) j) level (spot_on s (slopes_of s) style level (i ⟶ j))
    unfolding spot_on
    one_spot style e = (
      counted ∙ ap bit e,
      record { crossed = e; k = _; bracket = side-bracket style (end_at s (slopes_of s) i) (end_at s (slopes_of s) j) level e; at = refl },
    )

    -- 'otherwise none', in either style.
    pub no_spot : is_crossed_by level (height_of s i) (height_of s j) ≡ false → count_of (i ⟶ j) (vertices (lines_of s ts level)) ≡ 0
    no_spot e = counted ∙ ap bit e
