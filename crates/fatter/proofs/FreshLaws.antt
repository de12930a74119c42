-- The new side is none before the swap: `fresh`; and no place is strictly inside a new triangle and one that stays: `no_overlap`. Both are
-- of one side of the swap; the other is the same with i and j, l and r the other way round. Assumes nothing.
--
-- A place strictly inside a new triangle and a triangle that stays could be moved off the old side, and would be strictly inside two old
-- ones. Were the new side there before, the middle of it, moved inward, would be such a place.
use mathlib.Core.Path.{◌≡◌, sym, ap}
use mathlib.Core.List.{List}
use Prim.Native.Nat.{ℕ, suc, ◌+◌, ◌<◌}
use native.Mathlib.Omega.{arith}
use native.Mathlib.Decide.{dec_lt}
use lib.IntN.{pos}
use lib.Signed.{◌<ℤ◌}
use Rattle.whole.specs.Place.{Place}
use Rattle.whole.specs.Turn.{turn}
use Rattle.whole.proofs.TurnLaws.{turn-cycle}
use Rattle.survey.specs.Survey.{Survey, place_of}
use Rattle.sweep.specs.Cover.{Inside, scale, big}
use Rattle.sweep.specs.Members.{In}
use Rattle.sweep.specs.Sweep.{Three, tri}
use Rattle.sweep.proofs.CoverLaws.{big-left}
use Rattle.sweep.proofs.Fill.{total-some}
use Rattle.sweep.proofs.MemberLaws.{any_find}
use Rattle.trace.specs.Mesh.{Has}
use Rattle.hull.specs.MeshOf.{placed, twice_of, runs, runs_in, MeshOf}
use Rattle.hull.proofs.SideLaws.{corners-differ}
use Rattle.fatter.specs.Swap.{exchange}
use Rattle.fatter.proofs.ExchangeLaws.{Turned, turned_in, turned_to, turned_from, turned_same, runs-next, step_not, runs-turned, runs_own}
use Rattle.fatter.proofs.ExchangeLaws as exchanged
use Rattle.fatter.proofs.QuadLaws.{Convex, inside-next, Sign, sign_of, left, flat, right, cut_left, cut_right, push, finer, push_off, reach, push-inside, mid, mid-inside}

module _
    (s : Survey)
    (ts : List (Three ℕ))
    (m : MeshOf s ts)
    (i j l r : ℕ)
    (on : Has i j l ts)
    (back : Has j i r ts)
    (quad : Convex (place_of s i) (place_of s r) (place_of s j) (place_of s l))
  where
    abbrev f : ℕ → Place
    f = place_of s

    -- The quadrilateral in k-ths.
    pub quad_in : (k : ℕ) → 0 < k → Convex (scale k (f i)) (scale k (f r)) (scale k (f j)) (scale k (f l))
    quad_in k h =
        record {
          abc = big-left k h (tri (f i) (f r) (f j)) quad.abc;
          bcd = big-left k h (tri (f r) (f j) (f l)) quad.bcd;
          cda = big-left k h (tri (f j) (f l) (f i)) quad.cda;
          dab = big-left k h (tri (f l) (f i) (f r)) quad.dab;
        }

    ijl : pos 0 <ℤ turn (f i) (f j) (f l)
    ijl = rw (turn-cycle (f i) (f j) (f l)) quad.cda

    -- A place strictly inside a triangle of the list, from any of its corners, is strictly inside no other.
    alone : {a b c : ℕ} → Has a b c ts → (x : Three ℕ) → In x ts → runs a b x ≡ 0 → (k : ℕ) → 0 < k → (p : Place)
        → Inside (big k (placed s x)) p → Inside (big k (placed s (tri a b c))) p → ⊥
    alone {a} {b} {c} h x u e k lk p hx ht =
        let q = turned_in h in
        let same =
        m.inside k lk p x q.0 u q.1 hx
        (turned_from (λ t. Inside (big k (placed s t)) p) (λ t w. inside-next w) q.2 ht) in
        omega (arith, ap (runs a b) same, turned_same (runs a b) (runs-next a b) q.2, own)
      where
        own : runs a b (tri a b c) ≡ 1
        own = runs_own s a b c (exchanged.positive_at s ts m.positive i j l r on back (m.once i j) (m.once j i) h)

    -- No place is strictly inside the new triangle i, r, l and a triangle that stays.
    pub no_overlap : (x : Three ℕ) → In x ts → runs i j x ≡ 0 → runs j i x ≡ 0 → (k : ℕ) → 0 < k → (p : Place)
        → Inside (big k (placed s x)) p → Inside (big k (placed s (tri i r l))) p → ⊥
    no_overlap x u e g k lk p hx ht = go (sign_of (turn (scale k (f i)) (scale k (f j)) p))
      where
        off : (k : ℕ) → 0 < k → (p : Place) → Inside (big k (placed s x)) p → Inside (big k (placed s (tri i r l))) p
            → pos 0 <ℤ turn (scale k (f i)) (scale k (f j)) p → ⊥
        off k lk p hx ht h = alone on x u e k lk p hx (cut_left (scale k (f i)) (scale k (f r)) (scale k (f j)) (scale k (f l)) p (quad_in k lk) ht h)

        M : ℕ
        M = suc (reach k (placed s x) (f l) + reach k (placed s (tri i r l)) (f l))

        go : Sign (turn (scale k (f i)) (scale k (f j)) p) → ⊥
        go (left h) = off k lk p hx ht h
        go (right h) =
            alone back x u g k lk p hx
            (inside-next (inside-next (cut_right (scale k (f i)) (scale k (f r)) (scale k (f j)) (scale k (f l)) p (quad_in k lk) ht h)))
        go (flat h) =
            off (finer M k) (omega arith) (push M k p (f l)) (push-inside M k (placed s x) p (f l) (omega arith) hx)
            (push-inside M k (placed s (tri i r l)) p (f l) (omega arith) ht)
            (push_off M k (f i) (f j) p (f l) h (big-left k lk (tri (f i) (f j) (f l)) ijl))

    -- The new side from r to l was none before.
    pub fresh : runs_in r l ts ≡ 0
    fresh = go (dec_lt 0 (runs_in r l ts))
      where
        irl : pos 0 <ℤ turn (f i) (f r) (f l)
        irl = rw (← turn-cycle (f l) (f i) (f r)) quad.dab

        rli : pos 0 <ℤ turn (f r) (f l) (f i)
        rli = rw (← turn-cycle (f i) (f r) (f l)) irl

        apart-new : (i ≡ r → ⊥) × (r ≡ l → ⊥) × (l ≡ i → ⊥)
        apart-new = corners-differ s (tri i r l) irl

        apart-old : (i ≡ j → ⊥) × (j ≡ l → ⊥) × (l ≡ i → ⊥)
        apart-old = corners-differ s (tri i j l) ijl

        apart_back : (i ≡ r → ⊥) × (r ≡ j → ⊥) × (j ≡ i → ⊥)
        apart_back = corners-differ s (tri i r j) quad.abc

        -- Neither old triangle runs it.
        not_on : runs r l (tri i j l) ≡ 0
        not_on =
            omega (
              arith,
              step_not r l i j (λ p q. apart-new.0 p),
              step_not r l j l (λ p q. apart_back.1 (sym p)),
              step_not r l l i (λ p q. apart-new.1 (sym p)),
            )

        not_back : runs r l (tri j i r) ≡ 0
        not_back =
            omega (
              arith,
              step_not r l j i (λ p q. apart_back.1 (sym p)),
              step_not r l i r (λ p q. apart-new.0 p),
              step_not r l r j (λ p q. apart-old.1 q),
            )

        meet : (x : Three ℕ) → In x ts → runs i j x ≡ 0 → runs j i x ≡ 0 → (e : ℕ) → Turned x r l e → ⊥
        meet x u p q e h =
            no_overlap x u p q (finer M 2) (omega arith) place
            (turned_from (λ t. Inside (big (finer M 2) (placed s t)) place) (λ t w. inside-next w) h
            (mid-inside (f r) (f l) (f e) M (f i) (omega arith) rle rli))
            (inside-next (inside-next (mid-inside (f r) (f l) (f i) M (f i) (omega arith) rli rli)))
          where
            M : ℕ
            M = suc (reach 2 (tri (f r) (f l) (f e)) (f i) + reach 2 (tri (f r) (f l) (f i)) (f i))

            place : Place
            place = push M 2 (mid (f r) (f l)) (f i)

            rle : pos 0 <ℤ turn (f r) (f l) (f e)
            rle =
                turned_to (λ t. pos 0 <ℤ twice_of s t) (λ t w. rw (← turn-cycle (f t.a) (f t.b) (f t.c)) w) h (m.positive x u)

        by : (x : Three ℕ) → In x ts → 0 < runs r l x → exchanged.Case s ts m.positive i j l r on back (m.once i j) (m.once j i) x (exchange i j l r x) → ⊥
        by x u h (exchanged.other p q e) = let t = runs-turned r l x h in meet x u p q t.0 t.1
        by x u h (exchanged.left_one p q t e) = omega (arith, turned_same (runs r l) (runs-next r l) t, not_on)
        by x u h (exchanged.right_one p q t e) = omega (arith, turned_same (runs r l) (runs-next r l) t, not_back)

        go : Dec (0 < runs_in r l ts) → runs_in r l ts ≡ 0
        go (yes h) =
            let q = any_find (total-some (runs r l) ts h) in
            absurd (by q.0 q.1 q.2 (exchanged.case s ts m.positive i j l r on back (m.once i j) (m.once j i) q.0 q.1))
        go (no h) = omega arith
