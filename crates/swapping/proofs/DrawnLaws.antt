-- Half-sides and the list of triangles: a swap on half-sides is a swap in the list (`swap-drawn`), place by place, each triangle from
-- some of its corners; and in the end the two give one list (`drawn-lowest`). Assumes nothing.
use mathlib.Core.Path.{◌≡◌, refl, sym, ap, ◌∙◌, subst, subst₂, subst₃}
use mathlib.Core.List.{List, map}
use Prim.Native.Nat.{ℕ, zero, suc, ◌+◌, ◌*◌, ◌≤◌, ◌<◌}
use native.Mathlib.Omega.{arith}
use native.Mathlib.Decide.{ℕ_discrete, dec_le}
use borrow.Author.Tests.{le-leb, lt-leb}
use lib.IntN.{pos}
use lib.ListN.{length, get_or, drop, length-map}
use lib.Seq.{ext_get_or, get_or-drop}
use lib.Signed.{◌<ℤ◌}
use Rattle.survey.specs.Survey.{Survey, place_of}
use Rattle.sweep.specs.Sweep.{Three, tri}
use Rattle.sweep.proofs.EntryLaws.{in_at, two_at, map_at}
use Rattle.sweep.proofs.Fill.{total_in}
use Rattle.trace.specs.Mesh.{Has}
use Rattle.triangles.specs.Mesh.{lowest_first}
use Rattle.hull.specs.MeshOf.{twice_of, runs, runs_in, MeshOf}
use Rattle.hull.proofs.SideLaws.{corners-differ}
use Rattle.circle.specs.Circle.{circle}
use Rattle.neighbours.specs.Half.{after, before, corner_in}
use Rattle.neighbours.specs.Room.{threes}
use Rattle.neighbours.proofs.RoomLaws.{length-threes}
use Rattle.swapping.specs.Halves.{triangle_at, at, swap_corners}
use Rattle.fatter.specs.Swap.{exchange}
use Rattle.fatter.proofs.ExchangeLaws.{Turned, as_it_is, by_one, by_two, has_at, turned_same, runs-next, runs_own}
use Rattle.fatter.proofs.ExchangeLaws as exchanged
use Rattle.swapping.proofs.HalfLaws.{Third, first, second, third, third_of, Apart}
use Rattle.swapping.proofs.HalfLaws as halves
use Rattle.fatter.proofs.KeptLaws as kept
use Rattle.hull.proofs.SoundLaws.{has_positive}

-- ---- half-sides of a list
-- The half-sides C are those of the triangles ts, in their order, each triangle from any of its corners.
pub record Drawn (C : ℕ → ℕ) (ts : List (Three ℕ)) : Type 0 where
  pub each : (k : ℕ) → k < length ts → Turned (at ts k) (C (3 * k)) (C (3 * k + 1)) (C (3 * k + 2))

turned_round : {t : Three ℕ} {a b c : ℕ} → Turned t a b c → Turned t b c a
turned_round (as_it_is e) = by_two e
turned_round (by_one e) = as_it_is e
turned_round (by_two e) = by_one e

module _ (C : ℕ → ℕ) (ts : List (Three ℕ)) (drawn : Drawn C ts) where
  -- The triangle of a half-side, from that side.
  pub record Half (h k : ℕ) : Type 0 where
    pub from_first : 3 * k ≤ h
    pub to_last : h < 3 * k + 3
    pub below : k < length ts
    pub turns : Turned (at ts k) (C h) (C (after h)) (C (before h))

  pub half : (h : ℕ) → h < 3 * length ts → (k : ℕ) × Half h k
  half h l = go (third_of h)
    where
      go : Third h → (k : ℕ) × Half h k
      go (first k a b c) = (k, record { from_first = omega arith; to_last = omega arith; below = omega arith; turns = rw (b, c, a) (drawn.each k (omega arith)) })
      go (second k a b c) =
          (k, record { from_first = omega arith; to_last = omega arith; below = omega arith; turns = rw (b, c, a) (turned_round (drawn.each k (omega arith))) })
      go (third k a b c) = (
        k,
        record {
          from_first = omega arith;
          to_last = omega arith;
          below = omega arith;
          turns = rw (b, c, a) (turned_round (turned_round (drawn.each k (omega arith))));
        },
      )

  pub half_has : (h : ℕ) → h < 3 * length ts → Has (C h) (C (after h)) (C (before h)) ts
  half_has h l = let q = half h l in has_at (in_at (tri 0 0 0) ts q.0 q.1.below) q.1.turns

  -- ---- of a mesh
  module _ (s : Survey) (m : MeshOf s ts) where
    -- The triangle of a half-side is counterclockwise, and runs its side once.
    half_runs : (h k : ℕ) → h < 3 * length ts → Half h k → runs (C h) (C (after h)) (at ts k) ≡ 1
    half_runs h k l q =
        turned_same (runs (C h) (C (after h))) (runs-next (C h) (C (after h))) q.turns
        ∙ runs_own s (C h) (C (after h)) (C (before h)) (has_positive s ts m (half_has h l))

    half-corners : (h : ℕ) → h < 3 * length ts → (C h ≡ C (after h) → ⊥) × (C (after h) ≡ C (before h) → ⊥) × (C (before h) ≡ C h → ⊥)
    half-corners h l = corners-differ s (tri (C h) (C (after h)) (C (before h))) (has_positive s ts m (half_has h l))

    -- Two triangles that run one side are one.
    one_place : (p q j k : ℕ) → j < length ts → k < length ts → runs p q (at ts j) ≡ 1 → runs p q (at ts k) ≡ 1 → j ≡ k
    one_place p q j k lj lk ej ek = go (ℕ_discrete j k)
      where
        go : Dec (j ≡ k) → j ≡ k
        go (yes e) = e
        go (no n) = absurd (omega (arith, two_at (tri 0 0 0) (runs p q) ts j k lj lk n, m.once p q))

    -- Each directed side once.
    half-single : (h g : ℕ) → h < 3 * length ts → g < 3 * length ts → C h ≡ C g → C (after h) ≡ C (after g) → h ≡ g
    half-single h g lh lg p q = go (half h lh) (half g lg)
      where
        d : (C h ≡ C (after h) → ⊥) × (C (after h) ≡ C (before h) → ⊥) × (C (before h) ≡ C h → ⊥)
        d = half-corners h lh

        -- Of one triangle, g is h or one of the other two, which start from other corners.
        by : (k : ℕ) → 3 * k ≤ h → h < 3 * k + 3 → 3 * k ≤ g → g < 3 * k + 3 → Third h → Dec (g ≡ h) → Dec (g ≡ after h) → Dec (g ≡ before h) → h ≡ g
        by k a b c e w (yes x) y z = sym x
        by k a b c e w (no x) (yes y) z = absurd (d.0 (p ∙ ap C y))
        by k a b c e w (no x) (no y) (yes z) = absurd (d.2 (sym (p ∙ ap C z)))
        by k a b c e (first n u v i) (no x) (no y) (no z) = absurd (omega arith)
        by k a b c e (second n u v i) (no x) (no y) (no z) = absurd (omega arith)
        by k a b c e (third n u v i) (no x) (no y) (no z) = absurd (omega arith)

        go : (k : ℕ) × Half h k → (n : ℕ) × Half g n → h ≡ g
        go x y =
            let same : x.0 ≡ y.0 =
            one_place (C h) (C (after h)) x.0 y.0 x.1.below y.1.below (half_runs h x.0 lh x.1)
            (subst₂ (λ a b. runs a b (at ts y.0) ≡ 1) (sym p) (sym q) (half_runs g y.0 lg y.1)) in
            by x.0 x.1.from_first x.1.to_last (omega (arith, y.1.from_first)) (omega (arith, y.1.to_last)) (third_of h) (ℕ_discrete g h)
            (ℕ_discrete g (after h)) (ℕ_discrete g (before h))

    -- ---- a swap
    module _
        (e f : ℕ)
        (le : e < 3 * length ts)
        (lf : f < 3 * length ts)
        (back_from : C f ≡ C (after e))
        (back_to : C (after f) ≡ C e)
        (far : pos 0 <ℤ circle (place_of s (C e)) (place_of s (C (after e))) (place_of s (C (before e))) (place_of s (C (before f))))
      where
        abbrev i : ℕ
        i = C e

        abbrev j : ℕ
        j = C (after e)

        abbrev l : ℕ
        l = C (before e)

        abbrev r : ℕ
        r = C (before f)

        on : Has i j l ts
        on = half_has e le

        back : Has j i r ts
        back = subst₂ (λ a b. Has a b r ts) back_from back_to (half_has f lf)

        -- What the swap asks of the half-sides.
        pub half-apart : Apart C (3 * length ts) e f
        half-apart =
            record {
              single = half-single;
              e-below = le;
              f-below = lf;
              back_from = back_from;
              back_to = back_to;
              i-j = (half-corners e le).0;
              j-l = (half-corners e le).1;
              l-i = (half-corners e le).2;
              i-r = (corners-differ s (tri i r l) (kept.irl s ts m i j l r on back far)).0;
              r-j = (corners-differ s (tri r j l) (kept.rjl s ts m i j l r on back far)).0;
              r-l = (corners-differ s (tri i r l) (kept.irl s ts m i j l r on back far)).1;
              no_rl = λ h b p q. no_run h b r l p q (kept.new_once s ts m i j l r on back far);
              no_lr = λ h b p q. no_run h b l r p q (kept.new_once_back s ts m i j l r on back far);
            }
          where
            no_run : (h : ℕ) → h < 3 * length ts → (a b : ℕ) → C h ≡ a → C (after h) ≡ b → runs_in a b ts ≡ 0 → ⊥
            no_run h k a b p q n =
                let x = half h k in
                let run = subst₂ (λ a b. runs a b (at ts x.0) ≡ 1) p q (half_runs h x.0 k x.1) in
                omega (arith, total_in (runs a b) (in_at (tri 0 0 0) ts x.0 x.1.below))

        abbrev C' : ℕ → ℕ
        C' = swap_corners e f C

        new-e : (C' e ≡ i) × (C' (after e) ≡ r) × (C' (before e) ≡ l)
        new-e = halves.new-e C (length ts) e f half-apart

        new-f : (C' f ≡ j) × (C' (after f) ≡ l) × (C' (before f) ≡ r)
        new-f = halves.new-f C (length ts) e f half-apart

        -- The next half-side belongs to the same triangle.
        after_in : (h k x : ℕ) → Half h x → 3 * k ≤ after h → after h < 3 * k + 3 → x ≡ k
        after_in h k x q a b = go (third_of h)
          where
            go : Third h → x ≡ k
            go (first n u v w) = omega (arith, q.from_first, q.to_last)
            go (second n u v w) = omega (arith, q.from_first, q.to_last)
            go (third n u v w) = omega (arith, q.from_first, q.to_last)

        -- The three half-sides of a triangle, as a triangle from half-side h.
        round_from : (D : ℕ → ℕ) (u : Three ℕ) (h k : ℕ) → 3 * k ≤ h → h < 3 * k + 3 → Turned u (D h) (D (after h)) (D (before h)) → Turned u (D (3 * k)) (D (3 * k + 1)) (D (3 * k + 2))
        round_from D u h k a b w = go (third_of h)
          where
            at_k : {x y : ℕ} → x ≡ y → D x ≡ D y
            at_k e = ap D e

            go : Third h → Turned u (D (3 * k)) (D (3 * k + 1)) (D (3 * k + 2))
            go (first n x y z) = subst₃ (Turned u) (at_k (omega arith)) (at_k (omega arith)) (at_k (omega arith)) w
            go (second n x y z) = subst₃ (Turned u) (at_k (omega arith)) (at_k (omega arith)) (at_k (omega arith)) (turned_round (turned_round w))
            go (third n x y z) = subst₃ (Turned u) (at_k (omega arith)) (at_k (omega arith)) (at_k (omega arith)) (turned_round w)

        pub swap-drawn : Drawn C' (map (exchange i j l r) ts)
        swap-drawn = record { each = λ k b. each k (omega (arith, length-map ts (exchange i j l r))) }
          where
            each : (k : ℕ) → k < length ts → Turned (at (map (exchange i j l r) ts) k) (C' (3 * k)) (C' (3 * k + 1)) (C' (3 * k + 2))
            each k b =
                rw (map_at (exchange i j l r) (tri 0 0 0) (tri 0 0 0) ts k b)
                (go (exchanged.case s ts m.positive i j l r on back (m.once i j) (m.once j i) (at ts k) (in_at (tri 0 0 0) ts k b)) (half e le) (half f lf))
              where
                -- The triangle of e runs from i to j, and that of f back.
                run-e : (x : ℕ) → Half e x → runs i j (at ts x) ≡ 1
                run-e x q = half_runs e x le q

                run-f : (x : ℕ) → Half f x → runs j i (at ts x) ≡ 1
                run-f x q = subst₂ (λ a b. runs a b (at ts x) ≡ 1) back_from back_to (half_runs f x lf q)

                same : (g : ℕ) → 3 * k ≤ g → g < 3 * k + 3 → runs i j (at ts k) ≡ 0 → runs j i (at ts k) ≡ 0
                    → (x : ℕ) × Half e x → (y : ℕ) × Half f y → C' g ≡ C g
                same g u v p q x y =
                    halves.corner-else C (length ts) e f half-apart g
                    (λ z. let n = after_in e k x.0 x.1 (omega arith) (omega arith) in omega (arith, ap (λ n. runs i j (at ts n)) n, run-e x.0 x.1))
                    (λ z. let n = after_in f k y.0 y.1 (omega arith) (omega arith) in omega (arith, ap (λ n. runs j i (at ts n)) n, run-f y.0 y.1))

                go : exchanged.Case s ts m.positive i j l r on back (m.once i j) (m.once j i) (at ts k) (exchange i j l r (at ts k))
                    → (x : ℕ) × Half e x → (y : ℕ) × Half f y → Turned (exchange i j l r (at ts k)) (C' (3 * k)) (C' (3 * k + 1)) (C' (3 * k + 2))
                go (exchanged.other p q z) x y =
                    subst (λ u. Turned u (C' (3 * k)) (C' (3 * k + 1)) (C' (3 * k + 2))) (sym z)
                    (subst₃ (Turned (at ts k)) (sym (same (3 * k) (omega arith) (omega arith) p q x y)) (sym (same (3 * k + 1) (omega arith) (omega arith) p q x y))
                    (sym (same (3 * k + 2) (omega arith) (omega arith) p q x y)) (drawn.each k b))
                go (exchanged.left_one p q w z) x y =
                    let n = one_place i j x.0 k x.1.below b (run-e x.0 x.1) p in
                    subst (λ u. Turned u (C' (3 * k)) (C' (3 * k + 1)) (C' (3 * k + 2))) (sym z)
                    (round_from C' (tri i r l) e k (omega (arith, x.1.from_first)) (omega (arith, x.1.to_last))
                    (as_it_is (sym (λ c. tri (new-e.0 c) (new-e.1 c) (new-e.2 c)))))
                go (exchanged.right_one p q w z) x y =
                    let n = one_place j i y.0 k y.1.below b (run-f y.0 y.1) q in
                    subst (λ u. Turned u (C' (3 * k)) (C' (3 * k + 1)) (C' (3 * k + 2))) (sym z)
                    (round_from C' (tri r j l) f k (omega (arith, y.1.from_first)) (omega (arith, y.1.to_last))
                    (by_two (sym (λ c. tri (new-f.2 c) (new-f.0 c) (new-f.1 c)))))

-- ---- at the start, and in the end
-- Triangle k of those at the front of a list, by its half-sides.
pub threes_at : (t : ℕ) (c : List ℕ) (k : ℕ) → k < t → at (threes t c) k ≡ triangle_at (corner_in c) k
unfolding threes
threes_at zero c k h = absurd (omega arith)
threes_at (suc t) c zero h = refl
threes_at (suc t) c (suc k) h =
    threes_at t (drop 3 c) k (omega arith) ∙ (λ n. tri ((get_or-drop 3 c (3 * k) 0 ∙ up 0 n0) n) ((get_or-drop 3 c (3 * k + 1) 0 ∙ up 1 n1) n) ((get_or-drop 3 c (3 * k + 2) 0 ∙ up 2 n2) n))
  where
    n0 : 3 + 3 * k ≡ 3 * suc k
    n0 = omega arith

    n1 : 3 + (3 * k + 1) ≡ 3 * suc k + 1
    n1 = omega arith

    n2 : 3 + (3 * k + 2) ≡ 3 * suc k + 2
    n2 = omega arith

    up : (x : ℕ) {i j : ℕ} → i ≡ j → get_or c i 0 ≡ get_or c j 0
    up x e = ap (λ i. get_or c i 0) e

-- A triangle from whichever corner has one form with its lowest station first.
lowest-turned : (a b c : ℕ) → (a ≡ b → ⊥) → (b ≡ c → ⊥) → (c ≡ a → ⊥) → lowest_first (tri b c a) ≡ lowest_first (tri a b c)
unfolding lowest_first
lowest-turned a b c x y z = go (dec_le a b) (dec_le b c) (dec_le a c)
  where
    go : Dec (a ≤ b) → Dec (b ≤ c) → Dec (a ≤ c) → lowest_first (tri b c a) ≡ lowest_first (tri a b c)
    go (yes p) (yes q) (yes r) = simp (le-leb a b p, le-leb a c r, lt-leb b a (omega arith), le-leb b c q, lt-leb c a (omega arith), lt-leb c b (omega arith))
    go (yes p) (yes q) (no r) = absurd (omega arith)
    go (yes p) (no q) (yes r) = simp (le-leb a b p, le-leb a c r, lt-leb b a (omega arith), lt-leb b c (omega arith), lt-leb c a (omega arith), le-leb c b (omega arith))
    go (yes p) (no q) (no r) = simp (le-leb a b p, lt-leb a c (omega arith), lt-leb b a (omega arith), lt-leb b c (omega arith), le-leb c a (omega arith), le-leb c b (omega arith))
    go (no p) (yes q) (yes r) = simp (lt-leb a b (omega arith), le-leb a c r, le-leb b a (omega arith), le-leb b c q, lt-leb c a (omega arith), lt-leb c b (omega arith))
    go (no p) (yes q) (no r) = simp (lt-leb a b (omega arith), lt-leb a c (omega arith), le-leb b a (omega arith), le-leb b c q, le-leb c a (omega arith), lt-leb c b (omega arith))
    go (no p) (no q) (yes r) = absurd (omega arith)
    go (no p) (no q) (no r) = simp (lt-leb a b (omega arith), lt-leb a c (omega arith), le-leb b a (omega arith), lt-leb b c (omega arith), le-leb c a (omega arith), le-leb c b (omega arith))

lowest_same : (s : Survey) (t : Three ℕ) (a b c : ℕ) → pos 0 <ℤ twice_of s t → Turned t a b c → lowest_first t ≡ lowest_first (tri a b c)
lowest_same s t a b c h w = go (corners-differ s t h) w
  where
    go : (t.a ≡ t.b → ⊥) × (t.b ≡ t.c → ⊥) × (t.c ≡ t.a → ⊥) → Turned t a b c → lowest_first t ≡ lowest_first (tri a b c)
    go d (as_it_is e) = ap lowest_first e
    go d (by_one e) =
        sym (lowest-turned t.b t.c t.a d.1 d.2 d.0 ∙ lowest-turned t.a t.b t.c d.0 d.1 d.2)
        ∙ ap lowest_first (λ n. tri (e n).c (e n).a (e n).b)
    go d (by_two e) = sym (lowest-turned t.a t.b t.c d.0 d.1 d.2) ∙ ap lowest_first (λ n. tri (e n).b (e n).c (e n).a)

-- The triangles that the half-sides give, lowest station first, are those of the list.
pub drawn-lowest : (s : Survey) (c : List ℕ) (ts : List (Three ℕ)) → MeshOf s ts → Drawn (corner_in c) ts
    → map lowest_first (threes (length ts) c) ≡ map lowest_first ts
drawn-lowest s c ts m drawn = ext_get_or (lowest_first (tri 0 0 0)) (map lowest_first (threes (length ts) c)) (map lowest_first ts) same each
  where
    same : length (map lowest_first (threes (length ts) c)) ≡ length (map lowest_first ts)
    same = length-map (threes (length ts) c) lowest_first ∙ length-threes (length ts) c ∙ sym (length-map ts lowest_first)

    each : (k : ℕ) → k < length (map lowest_first (threes (length ts) c))
        → get_or (map lowest_first (threes (length ts) c)) k (lowest_first (tri 0 0 0)) ≡ get_or (map lowest_first ts) k (lowest_first (tri 0 0 0))
    each k b =
        let h : k < length ts = omega (arith, same, length-map ts lowest_first) in
        map_at lowest_first (tri 0 0 0) (lowest_first (tri 0 0 0)) (threes (length ts) c) k (omega (arith, length-threes (length ts) c))
        ∙ ap lowest_first (threes_at (length ts) c k h)
        ∙ sym
        (map_at lowest_first (tri 0 0 0) (lowest_first (tri 0 0 0)) ts k h
        ∙ lowest_same s (at ts k) (get_or c (3 * k) 0) (get_or c (3 * k + 1) 0) (get_or c (3 * k + 2) 0) (m.positive (at ts k) (in_at (tri 0 0 0) ts k h))
        (drawn.each k h))
