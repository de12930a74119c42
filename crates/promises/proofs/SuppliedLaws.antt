-- A mesh from the supplier: what is shown of every survey that passes the checks. Assumes nothing.
use mathlib.Core.Path.{◌≡◌, ap, ◌∙◌}
use mathlib.Core.Bool.{Bool, true, false, not, ◌&&◌}
use mathlib.Core.List.{List}
use Prim.Native.Nat.{ℕ, ◌<◌}
use native.Mathlib.Omega.{arith}
use borrow.Author.Tests.{not-true, not-false}
use lib.ListN.{length, get_or}
use Rattle.lists.specs.Lowest.{lowest}
use Rattle.lists.proofs.LowestLaws.{lowest-passes, lowest-fails}
use Rattle.lists.proofs.TestLaws.{and_left, and_right}
use Rattle.survey.specs.Fit.{Fit}
use Rattle.survey.specs.Survey.{Survey}
use Rattle.sweep.specs.Sweep.{Three, tri}
use Rattle.mesh.specs.Kinds.{triangles_of}
use Rattle.mesh.proofs.KindLaws.{kind-mesh}
use Rattle.woven.specs.Accepted.{is_numbered, is_positive, is_sewn, is_faultless, first_wrong}
use Rattle.woven.proofs.AcceptedLaws.{accepted-mesh, accepted_is, length-free, inner-free, mesh-accepted}
use Rattle.woven.proofs.FaultlessLaws.{Sewn, sewn_of, first_wrong_is}
use Rattle.woven.proofs.WovenLaws.{woven-mesh}
use Rattle.promises.specs.Supplied.{Supplied}

-- A triangle whose numbers, turn and sides are right.
sewn_by : (s : Survey) (ts : List (Three ℕ)) (t : Three ℕ)
    → (is_numbered s t && (is_positive s t && (is_sewn s ts t.a t.b && (is_sewn s ts t.b t.c && is_sewn s ts t.c t.a)))) ≡ true
    → Sewn s ts t
sewn_by s ts t h =
    let rest = and_right (is_numbered s t) _ h in
    sewn_of s ts t (and_left (is_numbered s t) _ h) (and_left (is_positive s t) _ rest) (and_right (is_positive s t) _ rest)

module _ (s : Survey) (ts : List (Three ℕ)) where
  is_wrong : ℕ → Bool
  is_wrong k = not (is_faultless s ts (get_or ts k (tri 0 0 0)))

  found : first_wrong s ts ts ≡ lowest is_wrong (length ts)
  unfolding is_wrong
  found = first_wrong_is s ts ts

  none_before : (k : ℕ) → k < first_wrong s ts ts → is_faultless s ts (get_or ts k (tri 0 0 0)) ≡ true
  unfolding is_wrong
  none_before k h = not-false _ (lowest-fails is_wrong (length ts) k (omega (arith, found)))

  wrong_there : first_wrong s ts ts < length ts → is_faultless s ts (get_or ts (first_wrong s ts ts) (tri 0 0 0)) ≡ false
  unfolding is_wrong
  wrong_there h =
      ap (λ k. is_faultless s ts (get_or ts k (tri 0 0 0))) found ∙ not-true _ (lowest-passes is_wrong (length ts) (omega (arith, found)))

pub supplied : (s : Survey) → Fit s → Supplied s
supplied s fit =
    record {
      accepted = accepted-mesh s fit;
      ours = λ kind. mesh-accepted s fit (triangles_of kind s) (kind-mesh kind s fit);
      before = none_before s;
      first = wrong_there s;
      enough = woven-mesh s fit;
      no_inner = λ l whole right. inner-free s fit l whole (λ t i. sewn_by s _ t (right t i));
      no_length = length-free s fit;
      no_sum = accepted_is s fit;
    }
