-- How many lines and vertices a level of a survey has, and what stands at the front of a list. Assumes nothing.
use mathlib.Core.Path.{◌≡◌, sym, ap, ◌∙◌}
use mathlib.Core.List.{List, ◌++◌, map}
use Prim.Native.Nat.{ℕ, ◌*◌, ◌-◌, ◌≤◌}
use native.Mathlib.Omega.{arith}
use lib.IntN.{ℤ}
use lib.ListN.{length, take, length-append, length-map}
use lib.Seq.{take_at, length-take-le}
use Rattle.survey.specs.Fit.{Fit}
use Rattle.survey.specs.Survey.{Survey, count}
use Rattle.trace.specs.Side.{side_of}
use Rattle.trace.specs.Lines.{record_of, records, passed, vertices}
use Rattle.trace.proofs.RecordLaws.{halves}
use Rattle.slopes.specs.Job.{slopes_of}
use Rattle.sweep.specs.Sweep.{Three}
use Rattle.hull.specs.MeshOf.{MeshOf}
use Rattle.spots.specs.Lines.{lines_of, spot_on, spots_of, xs_of, ys_of}
use Rattle.lines.proofs.DrawLaws.{lines_fit, passed-fit}

-- The first n entries of a list that begins with n known ones.
pub front {ℓ} : {A : Type ℓ} {l : List A} (a b : List A) {n : ℕ} → l ≡ a ++ b → n ≡ length a → take n l ≡ a
front a b {n} e h = ap (take n) e ∙ take_at a b n (sym h)

pub front-count {ℓ} : {A : Type ℓ} (l : List A) (n : ℕ) → n ≤ length l → n ≡ length (take n l)
front-count l n h = sym (length-take-le n l h)

pub front_fits {ℓ} : {A : Type ℓ} {l : List A} (a b : List A) {n : ℕ} → l ≡ a ++ b → n ≡ length a → n ≤ length l
front_fits a b e h = omega (arith, ap length e, length-append a b, h)

module _ (s : Survey) (fit : Fit s) (ts : List (Three ℕ)) (mesh : MeshOf s ts) (style : ℕ) (level : ℤ) where
  pub records-count : length (records (lines_of s ts level)) ≡ length (lines_of s ts level)
  unfolding records
  records-count = length-map (lines_of s ts level) record_of

  pub lines-few : length (lines_of s ts level) ≤ 3072
  lines-few = let m = fit.most in omega (arith, m, lines_fit s fit ts mesh level, halves (3 * count s - 6))

  pub spots-count : length (spots_of s ts (slopes_of s) style level) ≡ length (passed (lines_of s ts level))
  unfolding spots_of vertices
  spots-count =
      length-map (map side_of (passed (lines_of s ts level))) (spot_on s (slopes_of s) style level)
      ∙ length-map (passed (lines_of s ts level)) side_of

  pub spots-few : length (spots_of s ts (slopes_of s) style level) ≤ 3072
  spots-few = let m = fit.most in omega (arith, m, spots-count, passed-fit s fit ts mesh level)

  pub xs-count : length (xs_of (spots_of s ts (slopes_of s) style level)) ≡ length (spots_of s ts (slopes_of s) style level)
  xs-count = length-map (spots_of s ts (slopes_of s) style level) _

  pub ys-count : length (ys_of (spots_of s ts (slopes_of s) style level)) ≡ length (spots_of s ts (slopes_of s) style level)
  ys-count = length-map (spots_of s ts (slopes_of s) style level) _
