-- The triangles of a list of numbers, one by one. Assumes nothing.
--
-- One triangle more stands behind those before it (`threes-next`), so a sum over them has one part more (`runs-next`) and a test of them all one
-- test more; where a triangle fails, it fails with all that stand behind it (`every_miss`).
use mathlib.Core.Path.{◌≡◌, refl, sym, ap, ◌∙◌}
use mathlib.Core.Bool.{Bool, true, false, ◌&&◌, and-true, and-false, and_assoc}
use mathlib.Core.List.{List, [], ◌∷◌, ◌++◌}
use Prim.Native.Nat.{ℕ, zero, suc, ◌+◌, ◌<◌}
use native.Mathlib.Omega.{arith}
use native.Mathlib.Numerals.{add-one}
use lib.ListN.{get_or, drop}
use Rattle.std.specs.Bool.{MatchBool}
use Rattle.sweep.specs.Members.{total}
use Rattle.sweep.specs.Page.{every}
use Rattle.sweep.specs.Sweep.{Three, tri, triangle_in}
use Rattle.sweep.proofs.MemberLaws.{total-append}
use Rattle.neighbours.specs.Room.{threes}
use Rattle.neighbours.proofs.RoomLaws.{behind, threes-next}
use Rattle.hull.specs.MeshOf.{runs, runs_in}

-- Sums.
pub runs-next : (i j k : ℕ) (l : List ℕ) → runs_in i j (threes (k + 1) l) ≡ runs_in i j (threes k l) + runs i j (triangle_in l k)
unfolding total
runs-next i j k l =
    ap (λ m. runs_in i j (threes m l)) (add-one k)
    ∙ ap (total (runs i j)) (threes-next k l)
    ∙ total-append (runs i j) (threes k l) (triangle_in l k ∷ [])
    ∙ omega arith

-- Tests.
module _ (p : Three ℕ → Bool) where
  every_append : (us : List (Three ℕ)) (u : Three ℕ) → every p (us ++ (u ∷ [])) ≡ (every p us && p u)
  unfolding every
  every_append [] u = and-true (p u)
  every_append (v ∷ us) u = ap (λ b. p v && b) (every_append us u) ∙ sym (and_assoc (p v) (every p us) (p u))

  pub every_next : (k : ℕ) (l : List ℕ) → every p (threes (suc k) l) ≡ (every p (threes k l) && p (triangle_in l k))
  every_next k l = ap (every p) (threes-next k l) ∙ every_append (threes k l) (triangle_in l k)

  pub every_miss : (t k : ℕ) (l : List ℕ) → k < t → p (triangle_in l k) ≡ false → every p (threes t l) ≡ false
  unfolding every threes
  every_miss zero k l h e = absurd (omega arith)
  every_miss (suc t) zero l h e = ap (λ b. b && every p (threes t (drop 3 l))) e
  every_miss (suc t) (suc k) l h e =
      ap (λ b. p (tri (get_or l 0 0) (get_or l 1 0) (get_or l 2 0)) && b) (every_miss t k (drop 3 l) (omega arith) (ap p (behind l k) ∙ e))
      ∙ and-false (p (tri (get_or l 0 0) (get_or l 1 0) (get_or l 2 0)))

  every_all : (t : ℕ) (l : List ℕ) → ((k : ℕ) → k < t → p (triangle_in l k) ≡ true) → every p (threes t l) ≡ true
  unfolding every threes
  every_all zero l h = refl
  every_all (suc t) l h =
      every_next t l
      ∙ ap (λ b. b && p (triangle_in l t)) (every_all t l (λ k i. h k (omega arith)))
      ∙ h t (omega arith)

  pub every-by : (t : ℕ) (l : List ℕ) (r : Bool)
      → MatchBool r ((k : ℕ) → k < t → p (triangle_in l k) ≡ true) ((k : ℕ) × (k < t) × (p (triangle_in l k) ≡ false))
      → r ≡ every p (threes t l)
  every-by t l true h = sym (every_all t l h)
  every-by t l false h = sym (every_miss t h.0 l h.1 h.2)
