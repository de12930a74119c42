-- The served and the unserved ground of a level over any mesh ts of a survey: document 02, L12. Assumes nothing.
use Rattle.std.specs.Prelude.{Bool, true, false, List, ◌↔◌, ◌≡◌, ℕ, ◌+◌, ◌≤◌, ◌<◌, ℤ, pos, nat_abs, ◌*ℤ◌, ◌≤ℤ◌, ◌<ℤ◌}
use Rattle.sweep.specs.Members.{In, sum}
use Rattle.sweep.specs.Sweep.{Three}
use Rattle.survey.specs.Limits.{most_ground}
use Rattle.survey.specs.Survey.{Survey, count, height_of}
use Rattle.slopes.specs.Job.{slopes_of}
use Rattle.hull.specs.Hull.{twice_hull}
use Rattle.hull.specs.MeshOf.{CornerOf}
use Rattle.spots.specs.Lines.{is_below}
use Rattle.ground.specs.Segments.{station_place}
use Rattle.parcels.specs.Area.{twice_within}
use Rattle.parcels.specs.Parts.{part_of}

-- 'twice the area of each part is counted in squares of a 128th', and 'the not-below parts and the below parts are each counted from their own
-- corners': the ground below the level (side true), or not below it (side false).
unfoldable pub ground_of : Survey → List (Three ℕ) → List ℤ → ℕ → ℤ → Bool → ℤ
ground_of s ts slopes style level side = sum (λ t. twice_within (part_of s slopes style level side t)) ts

-- 'for each level, the ground served (not below) and unserved', by the survey's own slopes. Neither is negative, so that as a natural
-- number it is what it is.
abbrev pub served_of : Survey → List (Three ℕ) → ℕ → ℤ → ℕ
served_of s ts style level = nat_abs (ground_of s ts (slopes_of s) style level false)

abbrev pub unserved_of : Survey → List (Three ℕ) → ℕ → ℤ → ℕ
unserved_of s ts style level = nat_abs (ground_of s ts (slopes_of s) style level true)

-- The area of a part of one triangle.
abbrev pub area_in : Survey → ℕ → ℤ → Bool → Three ℕ → ℤ
area_in s style level side t = twice_within (part_of s (slopes_of s) style level side t)

-- What the report promises of one level.
pub record Counts (s : Survey) (ts : List (Three ℕ)) (style : ℕ) (level : ℤ) : Type 0 where
  -- Both figures are whole and not negative: they are the sums of the areas of the parts, none of which is negative.
  pub served_is : pos (served_of s ts style level) ≡ sum (area_in s style level false) ts
  pub unserved_is : pos (unserved_of s ts style level) ≡ sum (area_in s style level true) ts
  pub natural : (side : Bool) (t : Three ℕ) → In t ts → pos 0 ≤ℤ area_in s style level side t
  -- 'together they must equal 16,384 times twice the hull area'
  pub together : pos (served_of s ts style level + unserved_of s ts style level) ≡ pos 16384 *ℤ twice_hull s
  -- A reading counts where it is: a corner of a triangle is a corner of the part on its side of the level, and of no other.
  pub corners : (side : Bool) (t : Three ℕ) → In t ts → (k : ℕ) → CornerOf k t
      → In (station_place s k) (part_of s (slopes_of s) style level side t) ↔ (is_below s level k ≡ side)
  -- A level above all readings serves nothing; one that is not above any serves all.
  pub none_served : ((k : ℕ) → k < count s → height_of s k <ℤ level) → served_of s ts style level ≡ 0
  pub all_served : ((k : ℕ) → k < count s → level ≤ℤ height_of s k) → unserved_of s ts style level ≡ 0

-- 'Raising the level mustn't raise the served figure': on the whole and in each triangle; so it does not lower the unserved one.
pub record Falls (s : Survey) (ts : List (Three ℕ)) (style : ℕ) (lower higher : ℤ) : Type 0 where
  pub served-falls : served_of s ts style higher ≤ served_of s ts style lower
  pub unserved-rises : unserved_of s ts style lower ≤ unserved_of s ts style higher
  pub in_triangle : (t : Three ℕ) → In t ts → area_in s style higher false t ≤ℤ area_in s style lower false t

-- All of it, of one mesh: in every style, at every level and pair of levels. No figure is more than 16,384 times twice a square of 8,191, for
-- which 41 bits suffice.
pub record Report (s : Survey) (ts : List (Three ℕ)) : Type 0 where
  pub counts : (style : ℕ) (level : ℤ) → Counts s ts style level
  pub falls : (style : ℕ) (lower higher : ℤ) → lower ≤ℤ higher → Falls s ts style lower higher
  pub most : (style : ℕ) (level : ℤ) → (served_of s ts style level ≤ most_ground) × (unserved_of s ts style level ≤ most_ground)
