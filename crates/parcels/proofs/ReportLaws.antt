-- All that the report promises, of any mesh of a survey that passes the checks: `report_of`. Assumes nothing.
use mathlib.Core.Path.{◌≡◌, ap, ◌∙◌}
use mathlib.Core.Bool.{Bool, true, false}
use mathlib.Core.List.{List}
use Prim.Native.Nat.{ℕ, ◌≤◌}
use native.Mathlib.Omega.{arith}
use lib.IntN.{ℤ, pos, nat_abs, ◌+ℤ◌}
use lib.Signed.{◌≤ℤ◌, yes_non_neg, pos-nat_abs}
use Rattle.whole.proofs.Bridge.{int}
use Rattle.sweep.specs.Sweep.{Three}
use Rattle.survey.specs.Fit.{Fit}
use Rattle.survey.specs.Limits.{most_ground}
use Rattle.survey.specs.Survey.{Survey}
use Rattle.slopes.specs.Job.{slopes_of}
use Rattle.hull.specs.MeshOf.{MeshOf}
use Rattle.parcels.specs.Served.{ground_of, Counts, Falls, Report}
use Rattle.parcels.proofs.GroundLaws.{part-natural, ground-natural, ground-together, part_falls, ground-falls, ground-rises}
use Rattle.parcels.proofs.BoundLaws.{ground-most}
use Rattle.parcels.proofs.EndLaws.{none_served, none_unserved}
use Rattle.parcels.proofs.ReadingLaws.{reading-counts}

-- In naturals as in whole numbers.
size-le : {y z : ℤ} → pos 0 ≤ℤ y → pos 0 ≤ℤ z → y ≤ℤ z → nat_abs y ≤ nat_abs z
size-le {y} {z} h k l = omega (arith, int, pos-nat_abs y (yes_non_neg h), pos-nat_abs z (yes_non_neg k), l)

module _ (s : Survey) (ts : List (Three ℕ)) (mesh : MeshOf s ts) where
  abbrev ground : ℕ → ℤ → Bool → ℤ
  ground style level side = ground_of s ts (slopes_of s) style level side

  -- A figure is the ground that it tells.
  pub figure_is : (style : ℕ) (level : ℤ) (side : Bool) → pos (nat_abs (ground style level side)) ≡ ground style level side
  figure_is style level side = pos-nat_abs (ground style level side) (yes_non_neg (ground-natural s ts mesh (slopes_of s) style level side))

  counts : (style : ℕ) (level : ℤ) → Counts s ts style level
  unfolding ground_of
  counts style level =
      record {
        served_is = figure_is style level false;
        unserved_is = figure_is style level true;
        natural = part-natural s ts mesh (slopes_of s) style level;
        together = (λ i. figure_is style level false i +ℤ figure_is style level true i) ∙ ground-together s ts mesh (slopes_of s) style level;
        corners = reading-counts s ts mesh (slopes_of s) style level;
        none_served = λ h. ap nat_abs (none_served s ts mesh (slopes_of s) style level h);
        all_served = λ h. ap nat_abs (none_unserved s ts mesh (slopes_of s) style level h);
      }

  falls : (style : ℕ) (lower higher : ℤ) → lower ≤ℤ higher → Falls s ts style lower higher
  falls style lower higher order =
      let natural = ground-natural s ts mesh (slopes_of s) style in
      record {
        served-falls = size-le (natural higher false) (natural lower false) (ground-falls s ts mesh (slopes_of s) style lower higher order);
        unserved-rises = size-le (natural lower true) (natural higher true) (ground-rises s ts mesh (slopes_of s) style lower higher order);
        in_triangle = part_falls s ts mesh (slopes_of s) style lower higher order;
      }

pub report_of : (s : Survey) → Fit s → (ts : List (Three ℕ)) → MeshOf s ts → Report s ts
report_of s fit ts mesh = record { counts = counts s ts mesh; falls = falls s ts mesh; most = λ style level. (most style level false, most style level true) }
  where
    most : (style : ℕ) (level : ℤ) (side : Bool) → nat_abs (ground_of s ts (slopes_of s) style level side) ≤ most_ground
    most style level side =
        size-le {z = pos most_ground} (ground-natural s ts mesh (slopes_of s) style level side) (omega (arith, int))
        (ground-most s fit ts mesh (slopes_of s) style level side)
