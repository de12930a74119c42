-- Counting a place P in a triangle by the sides that span it: a side a, b counts where a ≤ P < b in the order and P is left of it or on it.
-- Assumes nothing.
use mathlib.Core.Path.{◌≡◌, refl}
use mathlib.Core.Logic.{◌⊎◌, inl, inr, ⊎_elim}
use Prim.Native.Nat.{ℕ, suc, ◌+◌, ◌≤◌, ◌<◌}
use native.Mathlib.Omega.{arith}
use lib.IntN.{ℤ, pos, negsuc}
use lib.Signed.{◌≤ℤ◌, ◌<ℤ◌}
use Rattle.whole.proofs.Bridge.{int, minus}
use Rattle.whole.specs.Place.{Place, Before}
use Rattle.whole.specs.Turn.{turn, bend}
use Rattle.whole.proofs.OrderLaws.{Compared, compared, before-trans, before-irrefl, same, earlier, later}
use Rattle.whole.proofs.BendLaws.{half}
use Rattle.sweep.specs.Sweep.{Triangle, tri}
use Rattle.sweep.proofs.Slopes.{lower, low₁, low₂, low₃, low-cyc, turn-anti, flip, zero_from, zero_to}
use Rattle.sweep.specs.Boundary.{around, back}
use Rattle.sweep.specs.Cover.{Holds, Inside}
use Rattle.sweep.proofs.Clear.{beyond}

-- ---- the count
pub before? : (p v : Place) → Dec (Before p v)
before? p v = go (compared p v)
  where
    go : Compared p v → Dec (Before p v)
    go (same e) = no (λ l. before-irrefl (rw e at l))
    go (earlier l) = yes l
    go (later m) = no (λ l. before-irrefl (before-trans l m))

-- 1 where z is not negative.
abbrev pub above : ℤ → ℕ
above (pos n) = 1
above (negsuc n) = 0

abbrev pub counts : {A B : Type 0} → Dec A → Dec B → ℤ → ℕ
counts (yes _) d z = 0
counts (no _) (yes _) z = above z
counts (no _) (no _) z = 0

-- 1 where the side a, b spans p and has it on its left or on it.
unfoldable pub spans : Place → Place → Place → ℕ
spans p a b = counts (before? p a) (before? p b) (turn a b p)

pub above_one : {z : ℤ} → pos 0 ≤ℤ z → above z ≡ 1
above_one {z = pos n} h = refl
above_one {z = negsuc n} h = absurd (omega (arith, int))

pub above_zero : {z : ℤ} → z <ℤ pos 0 → above z ≡ 0
above_zero {z = pos n} h = absurd (omega (arith, int))
above_zero {z = negsuc n} h = refl

pub above_most : (z : ℤ) → above z ≤ 1
above_most (pos n) = omega arith
above_most (negsuc n) = omega arith

-- The counts keep an order of signs.
above-mono : (x z : ℤ) → (pos 0 ≤ℤ x → pos 0 ≤ℤ z) → above x ≤ above z
above-mono (pos n) z f = omega (arith, above_one (f (omega (arith, int))))
above-mono (negsuc n) z f = omega arith

above-parts : {x z : ℤ} → above x < above z → (x <ℤ pos 0) × (pos 0 ≤ℤ z)
above-parts {x = pos n} {z = z} h = absurd (omega (arith, above_most z))
above-parts {x = negsuc m} {z = pos n} h = (omega (arith, int), omega (arith, int))
above-parts {x = negsuc m} {z = negsuc n} h = absurd (omega arith)

pub record Counted (t : Triangle) (p : Place) (m n : ℕ) : Type 0 where
  pub least : n ≤ m
  pub most : m ≤ suc n
  pub hit : n < m → Holds turn t p
  pub inside : Inside t p → n < m

-- The facts do not depend on the corner that is named first.
round : {a b c p : Place} {m n : ℕ} → Counted (tri a b c) p m n → Counted (tri b c a) p m n
round {a} {b} {c} {p} k =
    record {
      least = k.least;
      most = k.most;
      hit = λ l. let h : Holds turn (tri a b c) p = k.hit l in record { ab = h.bc; bc = h.ca; ca = h.ab };
      inside = λ i. k.inside (record { ab = i.ca; bc = i.ab; ca = i.bc });
    }

pub not_before : (p a : Place) → (Before p a → ⊥) → (p ≡ a) ⊎ Before a p
not_before p a h = go (compared p a)
  where
    go : Compared p a → (p ≡ a) ⊎ Before a p
    go (same e) = inl e
    go (earlier l) = absurd (h l)
    go (later l) = inr l

pub no_less : (p a b : Place) → (Before p a → ⊥) → Before p b → Before a b
no_less p a b h l = ⊎_elim (λ e. rw e at l) (λ m. before-trans m l) (not_before p a h)

pub on_from : (a b p : Place) → p ≡ a → turn a b p ≡ pos 0
on_from a b p e = rw e (zero_from lower a b)

pub on_to : (a b p : Place) → p ≡ b → turn a b p ≡ pos 0
on_to a b p e = rw e (zero_to lower a b)

module _ (a b c p : Place) (left : pos 0 <ℤ turn a b c) where
  -- One corner a is not after p, and two are: a place above a, c is above a, b.
  above-ab : (Before p a → ⊥) → Before p b → Before p c → pos 0 ≤ℤ turn a c p → pos 0 ≤ℤ turn a b p
  above-ab na pb pc h =
      ⊎_elim (λ e. omega (arith, int, on_from a b p e))
      (λ ap. rw (low₂ a b p) (half a b a c a p (no_less p a b na pb) (no_less p a c na pc) ap (omega (arith, int, low₂ a b c)) (rw (low₂ a c p) at h)))
      (not_before p a na)

  -- And a place that is above a, b and not above a, c is left of b, c: the slopes from p to b and to c lie about the slope from a to p.
  pub below-bc : (Before p a → ⊥) → Before p b → Before p c → pos 0 ≤ℤ turn a b p → turn a c p <ℤ pos 0 → pos 0 ≤ℤ turn b c p
  below-bc na pb pc h k =
      ⊎_elim (λ e. absurd (omega (arith, int, k, on_from a c p e)))
      (λ ap. rw (low-cyc b c p, low₂ p b c)
      (half p b a p p c pb ap pc
      (omega (arith, int, turn-anti p b a p, minus (pos 0) (bend a p p b), low₁ a p b, flip lower a p b, minus (pos 0) (turn a b p)))
      (omega (arith, int, low₁ a p c, flip lower a p c, minus (pos 0) (turn a c p)))))
      (not_before p a na)

  -- So the triangle's facts, where one corner is not after p.
  one_before : (Before p a → ⊥) → Before p b → Before p c → Counted (tri a b c) p (above (turn a b p)) (above (turn a c p))
  one_before na pb pc =
      record {
        least = above-mono (turn a c p) (turn a b p) (above-ab na pb pc);
        most = omega (arith, above_most (turn a b p));
        hit = λ l. let r = above-parts l in record { ab = r.1; bc = below-bc na pb pc r.1 r.0; ca = omega (arith, int, r.0, low-cyc c a p, flip lower p c a, low-cyc a c p, minus (pos 0) (turn p a c)) };
        inside = λ i. omega (arith, above_one {z = turn a b p} (omega (arith, int, i.ab)), above_zero {z = turn a c p} (omega (arith, int, i.ca, low-cyc c a p, flip lower p c a, low-cyc a c p, minus (pos 0) (turn p a c))));
      }

  -- Two corners a, b are not after p, and one is: a place above a, c is above b, c.
  above-bc : (Before p a → ⊥) → (Before p b → ⊥) → Before p c → pos 0 ≤ℤ turn a c p → pos 0 ≤ℤ turn b c p
  above-bc na nb pc h =
      omega (
        arith,
        int,
        half p c a c b c pc (no_less p a c na pc) (no_less p b c nb pc)
            (omega (arith, int, h, flip lower a c p, minus (pos 0) (turn a p c), low₃ a p c, turn-anti p c a c, minus (pos 0) (bend a c p c)))
            (omega (arith, int, low₃ a b c)),
        flip lower b c p,
        minus (pos 0) (turn b p c),
        low₃ b p c,
        turn-anti p c b c,
        minus (pos 0) (bend b c p c),
      )

  -- And a place above b, c and not above a, c is left of a, b.
  pub below-ab : (Before p a → ⊥) → (Before p b → ⊥) → Before p c → pos 0 ≤ℤ turn b c p → turn a c p <ℤ pos 0 → pos 0 ≤ℤ turn a b p
  below-ab na nb pc h k =
      ⊎_elim (λ e. omega (arith, int, on_from a b p e))
      (λ ap. ⊎_elim (λ e. omega (arith, int, on_to a b p e))
      (λ bp. rw (low₃ a b p)
      (half a p p c b p ap pc bp
      (omega (arith, int, low₁ a p c, flip lower a p c, minus (pos 0) (turn a c p)))
      (omega (arith, int, turn-anti p c b p, minus (pos 0) (bend b p p c), low₁ b p c, flip lower b p c, minus (pos 0) (turn b c p)))))
      (not_before p b nb))
      (not_before p a na)

  -- So the facts where two corners are not after p.
  two-before : (Before p a → ⊥) → (Before p b → ⊥) → Before p c → Counted (tri a b c) p (above (turn b c p)) (above (turn a c p))
  two-before na nb pc =
      record {
        least = above-mono (turn a c p) (turn b c p) (above-bc na nb pc);
        most = omega (arith, above_most (turn b c p));
        hit = λ l. let r = above-parts l in record { ab = below-ab na nb pc r.1 r.0; bc = r.1; ca = omega (arith, int, r.0, low-cyc c a p, flip lower p c a, low-cyc a c p, minus (pos 0) (turn p a c)) };
        inside = λ i. omega (arith, above_one {z = turn b c p} (omega (arith, int, i.bc)), above_zero {z = turn a c p} (omega (arith, int, i.ca, low-cyc c a p, flip lower p c a, low-cyc a c p, minus (pos 0) (turn p a c))));
      }

  -- Where no side spans p nothing is counted, and p is not strictly inside:
  nothing : (Inside (tri a b c) p → ⊥) → Counted (tri a b c) p 0 0
  nothing f = record { least = omega arith; most = omega arith; hit = λ l. absurd (omega arith); inside = λ i. absurd (f i) }

  -- Before all corners the slopes from p would go round in a ring.
  all_before : Before p a → Before p b → Before p c → Inside (tri a b c) p → ⊥
  all_before pa pb pc i =
      omega (
        arith,
        int,
        half p a p b p c pa pb pc (omega (arith, int, i.ab, low-cyc a b p, low₂ p a b)) (omega (arith, int, i.bc, low-cyc b c p, low₂ p b c)),
        i.ca,
        low-cyc c a p,
        low₂ p c a,
        turn-anti p a p c,
        minus (pos 0) (bend p c p a),
      )

  -- After all corners p is `beyond`, or on a corner.
  none_before : (Before p a → ⊥) → (Before p b → ⊥) → (Before p c → ⊥) → Inside (tri a b c) p → ⊥
  none_before na nb nc i =
      ⊎_elim (λ e. omega (arith, int, i.ab, on_from a b p e))
      (λ ap. ⊎_elim (λ e. omega (arith, int, i.bc, on_from b c p e))
      (λ bp. ⊎_elim (λ e. omega (arith, int, i.ca, on_from c a p e))
      (λ cp. beyond (tri a b c) p ap bp cp left (record { ab = omega (arith, int, i.ab); bc = omega (arith, int, i.bc); ca = omega (arith, int, i.ca) }))
      (not_before p c nc))
      (not_before p b nb))
      (not_before p a na)

recount : {t : Triangle} {p : Place} {m n : ℕ} (m' n' : ℕ) → m ≡ m' → n ≡ n' → Counted t p m n → Counted t p m' n'
recount m' n' e f k = record { least = omega (arith, k.least); most = omega (arith, k.most); hit = λ l. k.hit (omega arith); inside = λ i. omega (arith, k.inside i) }

-- Over the sides of a triangle, the count with it is the count against it, or one more; more only in the triangle, and always strictly inside it.
pub counted : (t : Triangle) (p : Place) → pos 0 <ℤ turn t.a t.b t.c → Counted t p (around (spans p) t) (around (back (spans p)) t)
unfolding spans
counted t p left = go t.a t.b t.c left (before? p t.a) (before? p t.b) (before? p t.c)
  where
    go : (a b c : Place) → pos 0 <ℤ turn a b c → (da : Dec (Before p a)) (db : Dec (Before p b)) (dc : Dec (Before p c)) →
        Counted (tri a b c) p (counts da db (turn a b p) + counts db dc (turn b c p) + counts dc da (turn c a p)) (counts db da (turn b a p) + counts dc db (turn c b p) + counts da dc (turn a c p))
    go a b c l (yes x) (yes y) (yes z) = nothing a b c p l (all_before a b c p l x y z)
    go a b c l (no x) (no y) (no z) = nothing a b c p l (none_before a b c p l x y z)
    go a b c l (no x) (yes y) (yes z) = recount _ _ (omega arith) (omega arith) (one_before a b c p l x y z)
    go a b c l (yes x) (no y) (yes z) = recount _ _ (omega arith) (omega arith) (round (round (one_before b c a p (rw (low-cyc b c a) l) y z x)))
    go a b c l (yes x) (yes y) (no z) = recount _ _ (omega arith) (omega arith) (round (one_before c a b p (rw low-cyc at l) z x y))
    go a b c l (no x) (no y) (yes z) = recount _ _ (omega arith) (omega arith) (two-before a b c p l x y z)
    go a b c l (yes x) (no y) (no z) = recount _ _ (omega arith) (omega arith) (round (round (two-before b c a p (rw (low-cyc b c a) l) y z x)))
    go a b c l (no x) (yes y) (no z) = recount _ _ (omega arith) (omega arith) (round (two-before c a b p (rw low-cyc at l) z x y))
