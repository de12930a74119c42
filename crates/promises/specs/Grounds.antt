-- Ground truly covered: document 02, L11. Assumes nothing.
use Rattle.std.specs.Prelude.{true, List, ◌↔◌, ◌≡◌, ℕ}
use Rattle.whole.specs.Place.{Place}
use Rattle.survey.specs.Fit.{Fit}
use Rattle.survey.specs.Survey.{Survey}
use Rattle.sweep.specs.Sweep.{Three}
use Rattle.hull.specs.MeshOf.{MeshOf}
use Rattle.mesh.specs.Kinds.{triangles_of}
use Rattle.woven.specs.Accepted.{supplied_in, is_accepted}
use Rattle.ground.specs.Ground.{Ground}
use Rattle.ground.specs.Meeting.{CrossProperly}
use Rattle.ground.specs.Sides.{Apart}

pub record Grounds : Type 0 where
  -- 'for every accepted mesh': any mesh of a survey, those of both kinds, and those that are handed in and accepted.
  pub any : (s : Survey) (ts : List (Three ℕ)) → MeshOf s ts → Ground s ts
  pub kinds : (s : Survey) → Fit s → (kind : ℕ) → Ground s (triangles_of kind s)
  pub supplied : (s : Survey) → Fit s → (l : List ℕ) → is_accepted s l ≡ true → Ground s (supplied_in l)
  -- To cross properly is to have the ends of each strictly on the two sides of the other's line.
  pub proper : (p q u v : Place) → CrossProperly p q u v ↔ (Apart p q u v × Apart u v p q)
