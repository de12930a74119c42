-- The counts of document 01, and that stations which are not all on one line have a triangle. Assumes nothing.
use mathlib.Core.Path.{◌≡◌, refl, ◌∙◌, ap}
use mathlib.Core.List.{List, [], ◌∷◌, reverse}
use mathlib.Core.Logic.{⊎_elim}
use Prim.Native.Nat.{zero, suc, ◌+◌, ◌*◌, ◌≤◌}
use native.Mathlib.Omega.{arith}
use lib.ListN.{length, length-append, length-reverse, length-map}
use lib.IntN.{ℤ, pos, negsuc, ◌-ℤ◌, ◌*ℤ◌}
use lib.Signed.{◌<ℤ◌}
use Rattle.whole.proofs.Bridge.{int, minus, mul}
use Rattle.whole.proofs.Polynomial.{var, lit, ◌:-◌, ◌:*◌}
use Rattle.whole.proofs.Solver.{identity}
use Rattle.whole.specs.Place.{Place, Before, rightward, upward}
use Rattle.whole.specs.Turn.{turn, across, climb}
use Rattle.whole.proofs.TurnLaws.{Turn, coordinates, Across, Climb}
use Rattle.whole.proofs.SignLaws.{positive-mul}
use Rattle.whole.proofs.BendLaws.{across-positive}
use Rattle.sweep.specs.Sweep.{State, mesh, pairs, outline}
use Rattle.sweep.proofs.Slopes.{lower}
use Rattle.sweep.proofs.Stack.{Side, Chain, bottom, more}
use Rattle.sweep.specs.Members.{In}
use Rattle.sweep.proofs.MemberLaws.{any_cons, any_none, any_reversed}
use Rattle.sweep.proofs.Invariants.{Inv, mesh-inv}
use Rattle.sweep.specs.Rising.{Rises}
use Rattle.sweep.proofs.Run.{flat-low}

-- A chain has one side fewer than stations.
pub pairs-length : (t : Place) (l : List Place) → length (pairs t l) ≡ length l
unfolding pairs
pairs-length t [] = refl
pairs-length t (s ∷ l) = ap suc (pairs-length s l)

-- 2n − b − 2 triangles, where b is the number of the outline's sides.
pub triangles : (p : Place) (ps : List Place) → Rises p ps → length (mesh p ps).tris + length (outline (mesh p ps)) + 2 ≡ 2 * length (p ∷ ps)
unfolding outline
triangles p ps r =
    let m : State = mesh p ps in
    simp (length-append, length-reverse, length-map) (omega (arith, (mesh-inv p ps r).count, pairs-length m.top m.lo, pairs-length m.top m.up))

-- ---- one line
zero_of_mul : {a b : ℤ} → pos 0 <ℤ a → a *ℤ b ≡ pos 0 → b ≡ pos 0
zero_of_mul {a} {b = pos zero} h e = refl
zero_of_mul {a} {b = pos (suc n)} h e = absurd (omega (arith, int, positive-mul {a = a} {b = pos (suc n)} h (omega (arith, int))))
zero_of_mul {a = pos a} {b = negsuc n} h e = absurd (omega (arith, int, mul (pos a) (negsuc n)))
zero_of_mul {a = negsuc a} {b = negsuc n} h e = absurd h.lt

module _ (s t a b c : Place) where
  -- The area of a, b, c, measured along the line of s and t; for an upright line by y.
  along-x : across s t *ℤ turn a b c ≡ across a b *ℤ (turn s t c -ℤ turn s t a) -ℤ across a c *ℤ (turn s t b -ℤ turn s t a)
  unfolding turn across
  along-x = identity (coordinates (s ∷ t ∷ a ∷ b ∷ c ∷ [])) (Across 0 1 :* Turn 2 3 4) (Across 2 3 :* (Turn 0 1 4 :- Turn 0 1 2) :- Across 2 4 :* (Turn 0 1 3 :- Turn 0 1 2)) refl

  along-y : climb s t *ℤ turn a b c ≡ climb a b *ℤ (turn s t c -ℤ turn s t a) -ℤ climb a c *ℤ (turn s t b -ℤ turn s t a)
  unfolding turn climb
  along-y = identity (coordinates (s ∷ t ∷ a ∷ b ∷ c ∷ [])) (Climb 0 1 :* Turn 2 3 4) (Climb 2 3 :* (Turn 0 1 4 :- Turn 0 1 2) :- Climb 2 4 :* (Turn 0 1 3 :- Turn 0 1 2)) refl

  none_left : (x y : ℤ) → x *ℤ (pos 0 -ℤ pos 0) -ℤ y *ℤ (pos 0 -ℤ pos 0) ≡ pos 0
  none_left x y = identity (x ∷ y ∷ []) (var 0 :* (lit (pos 0) :- lit (pos 0)) :- var 1 :* (lit (pos 0) :- lit (pos 0))) (lit (pos 0)) refl

  dy-pos : s.y + 1 ≤ t.y → pos 0 <ℤ climb s t
  unfolding climb
  dy-pos h = omega (arith, int, minus (pos t.y) (pos s.y))

  -- Three stations on the line of s and t are on one line.
  pub in_line : Before s t → turn s t a ≡ pos 0 → turn s t b ≡ pos 0 → turn s t c ≡ pos 0 → turn a b c ≡ pos 0
  in_line (rightward h) i j k = zero_of_mul (across-positive s t h) (along-x ∙ rw (i, j, k) (none_left (across a b) (across a c)))
  in_line (upward e h) i j k = zero_of_mul (dy-pos (omega arith)) (along-y ∙ rw (i, j, k) (none_left (climb a b) (climb a c)))

-- One station three times has no area.
flat_same : (a : Place) → turn a a a ≡ pos 0
unfolding turn
flat_same a = identity (coordinates (a ∷ [])) (Turn 0 0 0) (lit (pos 0)) refl

-- With no triangle any three stations are on one line.
pub spread : (z : Place) (done : List Place) (s : State) → Inv z done s → s.tris ≡ [] → (a b c : Place) → In a done → In b done → In c done → turn a b c ≡ pos 0
spread z done s inv e a b c i j k = go inv.low (inv.bare e).low
  where
    flat : (a b : Place) → Side lower (λ w. In w done) a b → (w : Place) → In w done → turn a b w ≡ pos 0
    flat = flat-low z done s inv e

    go : {t : Place} {l : List Place} → Chain lower (λ w. In w done) z t l → t ∷ l ≡ reverse done → turn a b c ≡ pos 0
    go {t} (bottom _) h = rw (one a i, one b j, one c k) (flat_same t)
      where
        one : (w : Place) → In w done → w ≡ t
        one w i = ⊎_elim (λ e. e) (λ n. absurd (any_none n)) (any_cons (rw (← h) at (any_reversed done i)))
    go (more {t = t} {s = r} sd ch) h = in_line r t a b c sd.lex (flat r t sd a i) (flat r t sd b j) (flat r t sd c k)
