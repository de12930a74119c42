-- The triangles that one new station makes on one chain: how they lie, what they cover, and what putting them in order keeps. Assumes nothing.
use mathlib.Core.Path.{◌≡◌, refl}
use mathlib.Core.List.{List, [], ◌∷◌, map}
use mathlib.Core.Logic.{◌⊎◌, inl, inr}
use Prim.Native.Nat.{ℕ}
use native.Mathlib.Omega.{arith}
use lib.ListN.{length, length-reverse}
use lib.IntN.{ℤ, pos}
use lib.Signed.{◌<ℤ◌}
use Rattle.whole.proofs.Bridge.{int, minus}
use Rattle.whole.specs.Place.{Place}
use Rattle.sweep.specs.Sweep.{Triangle, tri, mirror, ordered}
use Rattle.sweep.proofs.Slopes.{Slopes, flip}
use Rattle.sweep.proofs.Stack.{Pops, end, keep, drop, Side, Chain, more}
use Rattle.sweep.specs.Members.{total, Any, here, there, In}
use Rattle.sweep.proofs.MemberLaws.{total-reverse, any_cons, any_none, any_reverse, any_reversed}
use Rattle.sweep.specs.Boundary.{around, back}
use Rattle.sweep.specs.Cover.{Corner, at_a, at_b, at_c}

-- A triangle that q makes: on a side of the old hull, which it sees strictly.
pub record Made (o : Slopes) (S : Place → Type 0) (q : Place) (t : Triangle) : Type 0 where
  pub side : Side o S t.a t.c
  pub apex : t.b ≡ q
  pub seen : o.O t.a t.c q <ℤ pos 0

-- By induction on what is popped: each triangle stands on the side that was popped for it.
pub fan-made : {o : Slopes} {S : Place → Type 0} {z q t : Place} {l m : List Place} {ts : List Triangle} → Chain o S z t l → Pops o.O q t l m ts → (u : Triangle) → In u ts → Made o S q u
fan-made ch end u i = absurd (any_none i)
fan-made ch (keep h) u i = absurd (any_none i)
fan-made {o} {S} {q} (more {t = t} {s = s} sd ch) (drop {ts = ts} h r) u i = go (any_cons i) (λ j. fan-made ch r u j)
  where
    go : (u ≡ tri s q t) ⊎ In u ts → (In u ts → Made o S q u) → Made o S q u
    go (inl e) f = rw e (record { side = sd; apex = refl; seen = h })
    go (inr j) f = f j

-- The pop test is that the triangle runs the right way round.
pub made-left : {o : Slopes} {S : Place → Type 0} {q : Place} {t : Triangle} → Made o S q t → pos 0 <ℤ o.O t.a t.b t.c
made-left {o} {q} {t} d = rw d.apex (omega (arith, int, d.seen, flip o t.a q t.c, minus (pos 0) (o.O t.a t.c q)))

-- Mirroring a triangle keeps its corners.
pub mirrored : (w : Place) (t : Triangle) → Corner w t → Corner w (mirror t)
mirrored w t (at_a e) = at_c e
mirrored w t (at_b e) = at_b e
mirrored w t (at_c e) = at_a e

-- What is popped is a corner.
pub fan-cover : {O : Place → Place → Place → ℤ} {w q t : Place} {l m : List Place} {ts : List Triangle} → Pops O q t l m ts → In w (t ∷ l) → In w m ⊎ Any (Corner w) ts
fan-cover end i = inl i
fan-cover (keep h) i = inl i
fan-cover {w} (drop {t = t} {s = s} {l = l} {m = m} {ts = ts} h r) i = go (any_cons i) (λ j. fan-cover r j)
  where
    next : {u : Triangle} → In w m ⊎ Any (Corner w) ts → In w m ⊎ Any (Corner w) (u ∷ ts)
    next (inl j) = inl j
    next (inr j) = inr (there j)

    go : {q : Place} → (w ≡ t) ⊎ In w (s ∷ l) → (In w (s ∷ l) → In w m ⊎ Any (Corner w) ts) → In w m ⊎ Any (Corner w) (tri s q t ∷ ts)
    go (inl e) f = inr (here (at_c e))
    go (inr j) f = next (f j)

-- Where there is no triangle nothing is popped.
pub pops_none : {O : Place → Place → Place → ℤ} {q t : Place} {l m : List Place} {ts : List Triangle} → Pops O q t l m ts → length ts ≡ 0 → m ≡ t ∷ l
pops_none end e = refl
pops_none (keep h) e = refl
pops_none (drop h r) e = absurd (omega arith)

pub no_length : {A : Type 0} (l : List A) → length l ≡ 0 → l ≡ []
no_length [] e = refl
no_length (x ∷ l) e = absurd (omega arith)

-- ---- the order in which they are written
pub total-mirror : (g : Place → Place → ℕ) (ts : List Triangle) → total (around g) (map mirror ts) ≡ total (around (back g)) ts
unfolding total
total-mirror g [] = refl
total-mirror g (t ∷ ts) = omega (arith, total-mirror g ts)

-- The order of writing changes no sum, no length and no member.
pub total-ordered : (f : Triangle → ℕ) (ts us : List Triangle) → total f (ordered ts us) ≡ total f us
unfolding ordered
total-ordered f [] us = total-reverse f us
total-ordered f (t ∷ ts) us = refl

pub length-ordered : (ts us : List Triangle) → length (ordered ts us) ≡ length us
unfolding ordered
length-ordered [] us = length-reverse us
length-ordered (t ∷ ts) us = refl

pub any_ordered : {P : Triangle → Type 0} (ts us : List Triangle) → Any P (ordered ts us) → Any P us
unfolding ordered
any_ordered [] us i = any_reverse us i
any_ordered (t ∷ ts) us i = i

pub to_ordered : {P : Triangle → Type 0} (ts us : List Triangle) → Any P us → Any P (ordered ts us)
unfolding ordered
to_ordered [] us i = any_reversed us i
to_ordered (t ∷ ts) us i = i
