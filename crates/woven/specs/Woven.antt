-- What is asked of triangles that are handed in, in any order and each from any of its corners, to be a mesh: document 02, L10. That no
-- station lies in a triangle but at a corner, the count, the areas and the cover are not asked: they follow. Assumes nothing.
use Rattle.std.specs.Prelude.{true, false, List, ◌≡◌, ℕ, ◌≤◌, ◌<◌, pos, ◌<ℤ◌}
use Rattle.survey.specs.Survey.{Survey, count}
use Rattle.sweep.specs.Members.{Any, In}
use Rattle.sweep.specs.Sweep.{Three}
use Rattle.hull.specs.Hull.{is_hull_side}
use Rattle.hull.specs.MeshOf.{twice_of, CornerOf, OnStations, runs_in}

pub record Woven (s : Survey) (ts : List (Three ℕ)) : Type 0 where
  -- 'of stations in use, counterclockwise with positive area'
  pub stations : (t : Three ℕ) → In t ts → OnStations s t
  pub positive : (t : Three ℕ) → In t ts → pos 0 <ℤ twice_of s t
  -- 'each side is run by two triangles, once each way': of a side off the hull, that it is run as often as it is run back.
  pub even : (i j : ℕ) → is_hull_side s i j ≡ false → is_hull_side s j i ≡ false → runs_in i j ts ≡ runs_in j i ts
  -- 'or is a hull side with one'
  pub single : (i j : ℕ) → is_hull_side s i j ≡ true → runs_in i j ts ≤ 1
  -- 'every station in use is a corner'
  pub used : (k : ℕ) → k < count s → Any (CornerOf k) ts
