-- A list of the same triangles in another order is the same mesh (`mesh-relisted`). Assumes nothing.
use mathlib.Core.Path.{◌≡◌, ap, ◌∙◌}
use mathlib.Core.Bool.{◌&&◌}
use mathlib.Core.List.{List}
use Prim.Native.Nat.{ℕ, ◌+◌}
use native.Mathlib.Omega.{arith}
use lib.Dec.{ltb}
use lib.ListN.{length}
use Rattle.whole.proofs.Bridge.{gain, loss, is_eq}
use Rattle.survey.specs.Survey.{Survey, count}
use Rattle.sweep.specs.Members.{Any, In}
use Rattle.sweep.specs.Sweep.{Three}
use Rattle.sweep.proofs.MemberLaws.{any_find, in_any}
use Rattle.listing.proofs.ListedLaws.{Relisted, relisted_in, relisted_back}
use Rattle.hull.specs.Hull.{pairs_passing}
use Rattle.hull.specs.MeshOf.{twice_of, runs, is_side_in, sides_in, MeshOf}
use Rattle.hull.proofs.GridLaws.{total-ones}
use Rattle.fatter.proofs.KeptLaws.{sum-parts}

pub mesh-relisted : (s : Survey) (ts us : List (Three ℕ)) → Relisted ts us → MeshOf s ts → MeshOf s us
unfolding is_side_in
mesh-relisted s ts us h m =
    record {
      stations = λ t i. m.stations t (was i);
      positive = λ t i. m.positive t (was i);
      areas =
          is_eq (sum-parts (twice_of s) us) (sum-parts (twice_of s) ts)
          (omega (arith, h.sums (λ t. gain (twice_of s t)), h.sums (λ t. loss (twice_of s t))))
          ∙ m.areas;
      triangle-count = omega (arith, m.triangle-count, h.sums (λ t. 1), total-ones us, total-ones ts);
      side-count = omega (arith, ap length same_sides, m.side-count);
      used = λ k l. is (m.used k l);
      clear = λ t i. m.clear t (was i);
      once = λ i j. omega (arith, h.sums (runs i j), m.once i j);
      hull = λ i j e. (h.sums (runs i j) ∙ (m.hull i j e).0, h.sums (runs j i) ∙ (m.hull i j e).1);
      shared = λ i j e l. h.sums (runs j i) ∙ m.shared i j e (omega (arith, h.sums (runs i j)));
      covered = λ k l q w. is (m.covered k l q w);
      outside = λ k l q off t i. m.outside k l q off t (was i);
      inside = λ k l q t u i j. m.inside k l q t u (was i) (was j);
    }
  where
    was : {t : Three ℕ} → In t us → In t ts
    was i = relisted_in h i

    is : {P : Three ℕ → Type 0} → Any P ts → Any P us
    is k = let q = any_find k in in_any (relisted_in (relisted_back h) q.1) q.2

    same_sides : sides_in (count s) us ≡ sides_in (count s) ts
    same_sides = λ r. pairs_passing (λ i j. ltb i j && ltb 0 (h.sums (runs i j) r + h.sums (runs j i) r)) (count s)
