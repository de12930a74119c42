-- The slopes that a style is given count as the survey's own: what is counted with them are the figures of the definition. Assumes nothing.
use mathlib.Core.Path.{◌≡◌, refl, ap, ◌∙◌}
use mathlib.Core.Bool.{Bool, true, false, cond}
use mathlib.Core.List.{List, [], ◌∷◌, ◌++◌}
use Prim.Native.Nat.{ℕ, ◌<◌}
use native.Mathlib.Decide.{dec_lt}
use native.Mathlib.Omega.{arith}
use borrow.Author.Tests.{lt-ltb, le-ltb}
use lib.IntN.{ℤ, nat_abs, ◌+ℤ◌}
use Rattle.survey.specs.Fit.{Fit}
use Rattle.survey.specs.Survey.{Survey, count}
use Rattle.slopes.specs.Job.{slopes_of}
use Rattle.sweep.specs.Members.{In, here, there, sum}
use Rattle.sweep.specs.Sweep.{Three}
use Rattle.trace.specs.Crossed.{is_crossed}
use Rattle.trace.specs.Side.{◌⟶◌, side_of}
use Rattle.hull.specs.MeshOf.{OnStations}
use Rattle.spots.specs.Lines.{is_below, spot_on}
use Rattle.spots.specs.Prepared.{slopes_for}
use Rattle.spots.proofs.GivenLaws.{spot_same}
use Rattle.ground.specs.Segments.{standing, spot_place, side_spots}
use Rattle.parcels.specs.Area.{twice_within}
use Rattle.parcels.specs.Parts.{corner_on, part_of}
use Rattle.parcels.specs.Served.{ground_of}
use Rattle.survey.specs.declared.answers.Figures.{Figures}
use Rattle.served.specs.Figures.{figures_of, Tallied}

module _ (s : Survey) (fit : Fit s) (style : ℕ) (rest : List ℤ) (level : ℤ) where
  abbrev given : List ℤ
  given = slopes_for s style ++ rest

  side_own : {i j : ℕ} → i < count s → j < count s → side_spots s given style level (i ⟶ j) ≡ side_spots s (slopes_of s) style level (i ⟶ j)
  unfolding side_spots spot_place spot_on side_of
  side_own {i} {j} hi hj = ap (λ p. cond (is_crossed (is_below s level) (i ⟶ j)) (standing p ∷ []) []) (go (dec_lt i j))
    where
      go : Dec (i < j) → spot_on s given style level (side_of (i ⟶ j)) ≡ spot_on s (slopes_of s) style level (side_of (i ⟶ j))
      go (yes h) = rw (lt-ltb i j h) (spot_same s fit style rest level i j hi hj)
      go (no h) = rw (le-ltb i j (omega arith)) (spot_same s fit style rest level j i hj hi)

  part_own : (side : Bool) (t : Three ℕ) → OnStations s t → part_of s given style level side t ≡ part_of s (slopes_of s) style level side t
  unfolding part_of
  part_own side t h =
      λ k. corner_on s level side t.a ++ (side_own h.on_a h.on_b k ++ (corner_on s level side t.b ++ (side_own h.on_b h.on_c k
      ++ (corner_on s level side t.c ++ side_own h.on_c h.on_a k))))

  sum_own : (side : Bool) (ts : List (Three ℕ)) → ((t : Three ℕ) → In t ts → OnStations s t)
      → sum (λ t. twice_within (part_of s given style level side t)) ts ≡ sum (λ t. twice_within (part_of s (slopes_of s) style level side t)) ts
  unfolding sum
  sum_own side [] on = refl
  sum_own side (t ∷ ts) on = λ k. twice_within (part_own side t (on t (here refl)) k) +ℤ sum_own side ts (λ u i. on u (there i)) k

  -- What is counted are both figures.
  pub figures-are : (ts : List (Three ℕ)) → ((t : Three ℕ) → In t ts → OnStations s t) → {f : Figures} → Tallied s given style level ts f
      → f ≡ figures_of s ts style level
  unfolding ground_of
  figures-are ts on {f} h =
      λ k. record {
        served = ap nat_abs (h.served_is ∙ sum_own false ts on) k;
        unserved = ap nat_abs (h.unserved_is ∙ sum_own true ts on) k;
      }
