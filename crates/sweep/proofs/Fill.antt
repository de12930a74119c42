-- A place on a hull side is in the triangle of that side, and where a place stands under a chain. Assumes nothing.
use mathlib.Core.Path.{◌≡◌, refl, ap}
use mathlib.Core.List.{List, [], ◌∷◌}
use mathlib.Core.Logic.{◌⊎◌, inl, inr}
use Prim.Native.Nat.{ℕ, zero, suc, ◌+◌, ◌≤◌, ◌<◌}
use native.Mathlib.Omega.{arith}
use lib.IntN.{ℤ, pos, ◌+ℤ◌, ◌*ℤ◌}
use lib.Signed.{◌≤ℤ◌, ◌<ℤ◌}
use Rattle.whole.proofs.Bridge.{int, minus, add}
use Rattle.whole.proofs.Polynomial.{var, lit, ◌:+◌, ◌:*◌}
use Rattle.whole.proofs.Solver.{identity}
use Rattle.whole.specs.Place.{Place, Before, rightward, upward}
use Rattle.whole.specs.Turn.{turn, across, climb}
use Rattle.whole.proofs.TurnLaws.{Turn, coordinates, Across, Climb}
use Rattle.whole.proofs.BendLaws.{across-positive}
use Rattle.whole.proofs.SignLaws.{nonneg-mul, nonneg_of_mul}
use Rattle.whole.proofs.OrderLaws.{before-trans, before-irrefl}
use Rattle.sweep.specs.Sweep.{pairs}
use Rattle.sweep.proofs.Slopes.{Slopes}
use Rattle.sweep.proofs.Stack.{Side, Chain, bottom, more}
use Rattle.sweep.specs.Members.{total, Any, In, here, there}
use Rattle.sweep.specs.Boundary.{along}
use Rattle.sweep.proofs.Spans.{before?, counts, spans}
use Rattle.sweep.specs.Cover.{scale}
use Rattle.sweep.proofs.CoverLaws.{weight, spans-early, past_none}
use Rattle.sweep.proofs.Spans as place

-- A positive sum has a positive part.
pub total-some : {A : Type 0} (f : A → ℕ) (l : List A) → 0 < total f l → Any (λ x. 0 < f x) l
unfolding total
total-some f [] h = absurd (omega arith)
total-some f (x ∷ l) h = go (f x) refl (λ k. total-some f l k)
  where
    go : (n : ℕ) → f x ≡ n → (0 < total f l → Any (λ x. 0 < f x) l) → Any (λ x. 0 < f x) (x ∷ l)
    go zero e r = there (r (omega arith))
    go (suc n) e r = here {x = x} (omega arith)

-- A sum is at least each of its parts.
pub total_in : {A : Type 0} {x : A} {l : List A} (f : A → ℕ) → In x l → f x ≤ total f l
unfolding total
total_in f (here e) = omega (arith, ap f e)
total_in f (there i) = omega (arith, total_in f i)

-- ---- a place p between a and b on their line, and a third corner c
module _ (a b c p : Place) where
  -- Areas at p, measured along the side a, b: by x, or by y where the side is upright.
  id-ax : across a b *ℤ turn a c p ≡ across a p *ℤ turn b a c +ℤ across a c *ℤ turn a b p
  unfolding turn across
  id-ax = identity (coordinates (a ∷ b ∷ c ∷ p ∷ [])) (Across 0 1 :* Turn 0 2 3) (Across 0 3 :* Turn 1 0 2 :+ Across 0 2 :* Turn 0 1 3) refl

  id-ay : climb a b *ℤ turn a c p ≡ climb a p *ℤ turn b a c +ℤ climb a c *ℤ turn a b p
  unfolding turn climb
  id-ay = identity (coordinates (a ∷ b ∷ c ∷ p ∷ [])) (Climb 0 1 :* Turn 0 2 3) (Climb 0 3 :* Turn 1 0 2 :+ Climb 0 2 :* Turn 0 1 3) refl

  id-bx : across a b *ℤ turn c b p ≡ across p b *ℤ turn b a c +ℤ across c b *ℤ turn a b p
  unfolding turn across
  id-bx = identity (coordinates (a ∷ b ∷ c ∷ p ∷ [])) (Across 0 1 :* Turn 2 1 3) (Across 3 1 :* Turn 1 0 2 :+ Across 2 1 :* Turn 0 1 3) refl

  id_by : climb a b *ℤ turn c b p ≡ climb p b *ℤ turn b a c +ℤ climb c b *ℤ turn a b p
  unfolding turn climb
  id_by = identity (coordinates (a ∷ b ∷ c ∷ p ∷ [])) (Climb 0 1 :* Turn 2 1 3) (Climb 3 1 :* Turn 1 0 2 :+ Climb 2 1 :* Turn 0 1 3) refl

times_zero : (x y : ℤ) → y ≡ pos 0 → x *ℤ y ≡ pos 0
times_zero x y e = rw e (identity (x ∷ []) (var 0 :* lit (pos 0)) (lit (pos 0)) refl)

-- From w · z = u · v + r · 0, with w positive and u, v not negative: z is not negative.
scaled : (w z u v r y : ℤ) → w *ℤ z ≡ u *ℤ v +ℤ r *ℤ y → y ≡ pos 0 → pos 0 <ℤ w → pos 0 ≤ℤ u → pos 0 ≤ℤ v → pos 0 ≤ℤ z
scaled w z u v r y e f h k l = nonneg_of_mul h (omega (arith, int, e, add (u *ℤ v) (r *ℤ y), times_zero r y f, nonneg-mul k l))

-- The order of coordinates, where p is not before a nor after b.
pub record Upto (p b : Place) : Type 0 where
  pub in_x : p.x ≤ b.x
  pub in_y : p.x ≡ b.x → p.y ≤ b.y

pub upto : (p b : Place) → (p ≡ b) ⊎ Before p b → Upto p b
upto p b (inl e) = record { in_x = omega (arith, ap (λ q. q.x) e); in_y = λ f. omega (arith, ap (λ q. q.y) e) }
upto p b (inr (rightward h)) = record { in_x = omega arith; in_y = λ e. absurd (omega arith) }
upto p b (inr (upward e h)) = record { in_x = omega arith; in_y = λ f. omega arith }

dx_up : (a b : Place) → a.x ≤ b.x → pos 0 ≤ℤ across a b
unfolding across
dx_up a b h = omega (arith, int, minus (pos b.x) (pos a.x))

dy_up : (a b : Place) → a.y ≤ b.y → pos 0 ≤ℤ climb a b
unfolding climb
dy_up a b h = omega (arith, int, minus (pos b.y) (pos a.y))

dy-pos : (a b : Place) → a.y < b.y → pos 0 <ℤ climb a b
unfolding climb
dy-pos a b h = omega (arith, int, minus (pos b.y) (pos a.y))

module _ (a b c p : Place) (flat : turn a b p ≡ pos 0) (ap : Upto a p) (pb : Upto p b) (left : pos 0 <ℤ turn b a c) where
  nn : pos 0 ≤ℤ turn b a c
  nn = omega (arith, int, left)

  -- The triangle on the side from b to a holds p.
  pub seg_a : Before a b → pos 0 ≤ℤ turn a c p
  seg_a (rightward h) = scaled (across a b) (turn a c p) (across a p) (turn b a c) (across a c) (turn a b p) (id-ax a b c p) flat (across-positive a b h) (dx_up a p ap.in_x) nn
  seg_a (upward e h) =
      scaled (climb a b) (turn a c p) (climb a p) (turn b a c) (climb a c) (turn a b p) (id-ay a b c p) flat (dy-pos a b h) (dy_up a p (ap.in_y (omega (arith, ap.in_x, pb.in_x)))) nn

  -- On the other side too.
  pub seg-b : Before a b → pos 0 ≤ℤ turn c b p
  seg-b (rightward h) = scaled (across a b) (turn c b p) (across p b) (turn b a c) (across c b) (turn a b p) (id-bx a b c p) flat (across-positive a b h) (dx_up p b pb.in_x) nn
  seg-b (upward e h) =
      scaled (climb a b) (turn c b p) (climb p b) (turn b a c) (climb c b) (turn a b p) (id_by a b c p) flat (dy-pos a b h) (dy_up p b (pb.in_y (omega (arith, ap.in_x, pb.in_x)))) nn

-- ---- the side of a chain under or over p
pub record Over (o : Slopes) (S : Place → Type 0) (k : ℕ) (p : Place) (n : ℕ) : Type 0 where
  pub s : Place
  pub t : Place
  pub side : Side o S s t
  pub from : Before p (scale k s) → ⊥
  pub to : Before p (scale k t)
  pub count : n ≡ place.above (turn (scale k s) (scale k t) p)

-- A side that spans p counts by its area alone.
spans_is : (p a b : Place) → (Before p a → ⊥) → Before p b → spans p a b ≡ place.above (turn a b p)
unfolding spans
spans_is p a b n l = go (before? p a) (before? p b)
  where
    go : (d : Dec (Before p a)) (e : Dec (Before p b)) → counts d e (turn a b p) ≡ place.above (turn a b p)
    go (yes x) e = absurd (n x)
    go (no x) (yes y) = refl
    go (no x) (no y) = absurd (y l)

-- Go down the chain to the side that starts at p or before it: the sides above it start too late and those below it end too early.
pub over : (o : Slopes) (S : Place → Type 0) (z : Place) (k : ℕ) → 0 < k → (p : Place) → (Before p (scale k z) → ⊥) → {t : Place} {l : List Place} → Before p (scale k t) → Chain o S z t l → Over o S k p (along (weight k p) t l)
unfolding pairs total weight
over o S z k h p n place (bottom i) = absurd (n place)
over o S z k h p n place (more {t = t} {s = s} {l = l} sd ch) = go (before? p (scale k s)) (λ x. over o S z k h p n x ch)
  where
    go : Dec (Before p (scale k s)) → (Before p (scale k s) → Over o S k p (along (weight k p) s l)) → Over o S k p (spans p (scale k s) (scale k t) + along (weight k p) s l)
    go (yes x) r = let v = r x in record { s = v.s; t = v.t; side = v.side; from = v.from; to = v.to; count = omega (arith, v.count, spans-early p (scale k s) (scale k t) x) }
    go (no x) r =
        record { s = s; t = t; side = sd; from = x; to = place; count = omega (arith, spans_is p (scale k s) (scale k t) x place, past_none k h p o S z x ch) }

-- The first station is before the top of a chain with a side.
more-lex : {o : Slopes} {S : Place → Type 0} {z s t : Place} {l : List Place} → Side o S s t → Chain o S z s l → Before z t
more-lex sd (bottom i) = sd.lex
more-lex sd (more sr ch) = before-trans (more-lex sr ch) sd.lex

-- The first side of a chain, and the last.
pub first_side : {o : Slopes} {S : Place → Type 0} {z t : Place} {l : List Place} → Before z t → Chain o S z t l → (u : Place) × Side o S z u
first_side zt (bottom i) = absurd (before-irrefl zt)
first_side zt (more {t = t} sd (bottom i)) = (t, sd)
first_side zt (more sd (more {s = r} sr ch)) = first_side (more-lex sr ch) (more sr ch)

pub last_side : {o : Slopes} {S : Place → Type 0} {z t : Place} {l : List Place} → Before z t → Chain o S z t l → (u : Place) × Side o S u t
last_side zt (bottom i) = absurd (before-irrefl zt)
last_side zt (more {s = s} sd ch) = (s, sd)
