-- A fit survey has its places as the neighbours need them, and no two of its stations are as far apart as `far`. Assumes nothing.
use mathlib.Core.List.{List}
use Prim.Native.Nat.{ℕ, ◌<◌}
use native.Mathlib.Omega.{arith}
use lib.IntN.{ℤ}
use lib.ListN.{length}
use Rattle.survey.specs.Fit.{Fit}
use Rattle.survey.specs.Limits.{most_height}
use Rattle.survey.specs.Survey.{survey, place_of}
use Rattle.nearest.specs.Places.{places, Placed, High}
use Rattle.nearest.specs.Nearest.{distance_from}
use Rattle.nearest.specs.Four.{far}
use Rattle.nearest.proofs.DistanceLaws.{distance-near}

pub fit-placed : (xs ys : List ℕ) (zs : List ℤ) → Fit (survey xs ys zs) → Placed xs ys
fit-placed xs ys zs f =
    record {
      ys-count = f.ys-count;
      least = f.least;
      most = f.most;
      x-range = f.x-range;
      y-range = f.y-range;
      apart = f.apart;
      spread =
          record {
            i = f.spread.i;
            j = f.spread.j;
            k = f.spread.k;
            i-used = f.spread.i-used;
            j-used = f.spread.j-used;
            k-used = f.spread.k-used;
            turned = f.spread.turned;
          };
    }

pub fit-high : (xs ys : List ℕ) (zs : List ℤ) → Fit (survey xs ys zs) → High most_height xs zs
fit-high xs ys zs f = record { enough = omega (arith, f.zs-count); within = f.z-range }

pub placed-near : {xs ys : List ℕ} → Placed xs ys → {i k : ℕ} → i < length xs → k < length xs → distance_from (places xs ys) i k < far
placed-near {xs} {ys} g {i} {k} h l =
    distance-near {a = place_of (places xs ys) i} {b = place_of (places xs ys) k} (g.x-range i h) (g.y-range i h) (g.x-range k l) (g.y-range k l)
