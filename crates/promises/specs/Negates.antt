-- What becomes of a survey with every height negated: document 02. Assumes nothing.
use Rattle.std.specs.Prelude.{true, false, map, ◌≡◌, ℕ, ◌+◌, ℤ, neg_ℤ}
use Rattle.std.specs.Float.{binary64, fin}
use Rattle.std.specs.Float.Ieee.{to_bits, top}
use Rattle.whole.specs.Place.{Place}
use Rattle.survey.specs.Checks.{checked}
use Rattle.survey.specs.Survey.{Survey}
use Rattle.curve.specs.Curve.{curve_of}
use Rattle.slopes.specs.Job.{slopes_of}
use Rattle.mesh.specs.Kinds.{triangles_of}
use Rattle.spots.specs.Lines.{end_at}
use Rattle.height.specs.Job.{heighted}
use Rattle.mirror.specs.Mirror.{negated, Mirrored}

pub record Negates : Type 0 where
  -- 'Negating all heights must then negate every slope exactly.'
  pub slopes : (s : Survey) → slopes_of (negated s) ≡ map neg_ℤ (slopes_of s)
  -- It is refused or accepted as it was, and its mesh of either kind is the same.
  pub checks : (s : Survey) → checked (negated s) ≡ checked s
  pub mesh : (s : Survey) (kind : ℕ) → triangles_of kind (negated s) ≡ triangles_of kind s
  -- The curve along each side is negated at every stop, in either style: 'D and E alike'.
  pub curves : (s : Survey) (style i j k : ℕ)
      → curve_of style (end_at (negated s) (slopes_of (negated s)) i) (end_at (negated s) (slopes_of (negated s)) j) k
      ≡ neg_ℤ (curve_of style (end_at s (slopes_of s) i) (end_at s (slopes_of s) j) k)
  -- Each answer of the height job is negated, an f64 by the bit of its sign alone; a zero may have either sign.
  pub heights : (s : Survey) (kind : ℕ) (p : Place) (room work : ℕ) → Mirrored (heighted s kind p room work) (heighted (negated s) kind p room work)
  pub sign : (m : ℕ) (e : ℤ) → to_bits binary64 (fin true m e) ≡ top binary64 + to_bits binary64 (fin false m e)
