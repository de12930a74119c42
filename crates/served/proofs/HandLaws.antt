-- What is at hand when a level is counted is what the code asks of each triangle. Assumes nothing.
use mathlib.Core.Path.{sym, subst}
use mathlib.Core.List.{List}
use Prim.Native.Nat.{ℕ, ◌≤◌, ◌<◌}
use native.Mathlib.Omega.{arith}
use lib.IntN.{ℤ}
use Rattle.survey.specs.Survey.{Survey}
use Rattle.sweep.specs.Sweep.{triangle_in}
use Rattle.neighbours.proofs.RoomLaws.{length-threes, threes_in}
use Rattle.spots.proofs.GivenLaws.{given-long, end-range}
use Rattle.served.specs.Figures.{AtHand, AllRanged, Counter}

module _ {s : Survey} {t : ℕ} {work : List ℕ} {style : ℕ} {slopes : List ℤ} (h : AtHand s t work style slopes) where
  pub hand-ranged : AllRanged s slopes
  hand-ranged =
      let f = h.fit in
      subst (AllRanged s) (sym h.slopes-are)
      (record {
        listed = record { ys-count = f.ys-count; zs-count = f.zs-count; most = f.most; five = given-long s f style h.rest };
        ranged = end-range s f style h.rest;
      })

  pub hand-few : t ≤ 2048
  hand-few = omega (arith, h.mesh.triangle-count, length-threes t work, h.fit.most)

  pub hand-counter : (k : ℕ) → k < t → Counter s (triangle_in work k)
  hand-counter k l =
      let i = threes_in t k work l in
      record { stations = h.mesh.stations (triangle_in work k) i; positive = h.mesh.positive (triangle_in work k) i }
