-- What a swap does to the list: it changes the one triangle on either hand of the side, and no other. So every sum over the
-- triangles changes by those four alone. Assumes nothing.
use mathlib.Core.Path.{◌≡◌, refl, sym, ap, ◌∙◌, subst}
use mathlib.Core.Bool.{cond}
use mathlib.Core.List.{List, [], ◌∷◌, map}
use Prim.Native.Nat.{ℕ, ◌+◌, ◌*◌, ◌≤◌, ◌<◌}
use native.Mathlib.Omega.{arith}
use native.Mathlib.Decide.{dec_lt}
use borrow.Author.Tests.{lt-ltb, le-ltb}
use lib.Dec.{ltb}
use lib.IntN.{pos}
use lib.Signed.{◌<ℤ◌}
use Rattle.whole.proofs.TurnLaws.{turn-cycle}
use Rattle.survey.specs.Survey.{Survey, place_of}
use Rattle.sweep.specs.Members.{In, here, there, total}
use Rattle.sweep.specs.Sweep.{Three, tri}
use Rattle.sweep.proofs.Fill.{total_in}
use Rattle.sweep.proofs.MemberLaws.{total-map}
use Rattle.trace.specs.Mesh.{Has, first, second, third, later}
use Rattle.hull.specs.MeshOf.{twice_of, step_is, runs, runs_in}
use Rattle.hull.proofs.SideLaws.{Step, step, is, is_not, corners-differ, one_only}
use Rattle.fatter.specs.Swap.{exchange}

-- ---- a triangle from any of its corners
-- t is the triangle a, b, c, written from any of its corners.
pub data Turned (t : Three ℕ) (a b c : ℕ) : Type 0 where
  as_it_is : t ≡ tri a b c → Turned t a b c
  by_one : t ≡ tri b c a → Turned t a b c
  by_two : t ≡ tri c a b → Turned t a b c

pub turned_in : {a b c : ℕ} {ts : List (Three ℕ)} → Has a b c ts → (t : Three ℕ) × In t ts × Turned t a b c
turned_in (first {t}) = (t, here refl, as_it_is refl)
turned_in (second {t}) = (t, here refl, by_two refl)
turned_in (third {t}) = (t, here refl, by_one refl)
turned_in (later h) = let q = turned_in h in (q.0, there q.1, q.2)

-- And back: a triangle of the list, from any of its corners.
pub has_at : {t : Three ℕ} {a b c : ℕ} {ts : List (Three ℕ)} → In t ts → Turned t a b c → Has a b c ts
has_at {t} {a} {b} {c} (here {x = x} {l = l} e) h = subst (λ y. Has a b c (y ∷ l)) e (at h)
  where
    at : Turned t a b c → Has a b c (t ∷ l)
    at (as_it_is e) = subst (λ y. Has a b c (y ∷ l)) (sym e) (first {t = tri a b c})
    at (by_one e) = subst (λ y. Has a b c (y ∷ l)) (sym e) (third {t = tri b c a})
    at (by_two e) = subst (λ y. Has a b c (y ∷ l)) (sym e) (second {t = tri c a b})
has_at (there i) h = later (has_at i h)

pub turned-next : {t : Three ℕ} {a b c : ℕ} → Turned t a b c → Turned (tri t.b t.c t.a) a b c
turned-next (as_it_is e) = by_one (λ n. tri (e n).b (e n).c (e n).a)
turned-next (by_one e) = by_two (λ n. tri (e n).b (e n).c (e n).a)
turned-next (by_two e) = as_it_is (λ n. tri (e n).b (e n).c (e n).a)

-- What stays when a triangle is written from its next corner stays when it is turned, either way.
module _ (P : Three ℕ → Type 0) (next : (t : Three ℕ) → P t → P (tri t.b t.c t.a)) where
  pub turned_to : {t : Three ℕ} {a b c : ℕ} → Turned t a b c → P t → P (tri a b c)
  turned_to (as_it_is e) p = subst P e p
  turned_to {a} {b} {c} (by_one e) p = next (tri c a b) (next (tri b c a) (subst P e p))
  turned_to {a} {b} {c} (by_two e) p = next (tri c a b) (subst P e p)

  pub turned_from : {t : Three ℕ} {a b c : ℕ} → Turned t a b c → P (tri a b c) → P t
  turned_from (as_it_is e) p = subst P (sym e) p
  turned_from {a} {b} {c} (by_one e) p = subst P (sym e) (next (tri a b c) p)
  turned_from {a} {b} {c} (by_two e) p = subst P (sym e) (next (tri b c a) (next (tri a b c) p))

pub turned_same : (g : Three ℕ → ℕ) → ((t : Three ℕ) → g (tri t.b t.c t.a) ≡ g t) → {t : Three ℕ} {a b c : ℕ} → Turned t a b c → g t ≡ g (tri a b c)
turned_same g next {t} h = sym (turned_to (λ u. g u ≡ g t) (λ u e. next u ∙ e) h refl)

pub runs-next : (p q : ℕ) (t : Three ℕ) → runs p q (tri t.b t.c t.a) ≡ runs p q t
runs-next p q t = omega arith

-- ---- steps
pub step_self : (i j : ℕ) → step_is i j i j ≡ 1
step_self i j = go (step i j i j)
  where
    go : Step i j i j (step_is i j i j) → step_is i j i j ≡ 1
    go (is p q e) = e
    go (is_not n e) = absurd (n refl refl)

pub step_not : (i j a b : ℕ) → (a ≡ i → b ≡ j → ⊥) → step_is i j a b ≡ 0
step_not i j a b n = go (step i j a b)
  where
    go : Step i j a b (step_is i j a b) → step_is i j a b ≡ 0
    go (is p q e) = absurd (n p q)
    go (is_not _ e) = e

-- A triangle that runs from i to j is one on that side.
pub runs-turned : (i j : ℕ) (t : Three ℕ) → 0 < runs i j t → (k : ℕ) × Turned t i j k
runs-turned i j t h = go (step i j t.a t.b) (step i j t.b t.c) (step i j t.c t.a)
  where
    go : Step i j t.a t.b (step_is i j t.a t.b) → Step i j t.b t.c (step_is i j t.b t.c) → Step i j t.c t.a (step_is i j t.c t.a)
        → (k : ℕ) × Turned t i j k
    go (is p q e) y z = (t.c, as_it_is (λ n. tri (p n) (q n) t.c))
    go (is_not _ d) (is p q e) z = (t.a, by_two (λ n. tri t.a (p n) (q n)))
    go (is_not _ d) (is_not _ e) (is p q f) = (t.b, by_one (λ n. tri (q n) t.b (p n)))
    go (is_not _ d) (is_not _ e) (is_not _ f) = absurd (omega arith)

-- Its three sides, each once and not back.
module _ (s : Survey) (a b c : ℕ) (l : pos 0 <ℤ twice_of s (tri a b c)) where
  d : (a ≡ b → ⊥) × (b ≡ c → ⊥) × (c ≡ a → ⊥)
  d = corners-differ s (tri a b c) l

  pub runs_own : runs a b (tri a b c) ≡ 1
  runs_own = omega (arith, step_self a b, step_not a b b c (λ p q. d.0 (sym p)), step_not a b c a (λ p q. d.2 p))

  pub runs-against : runs b a (tri a b c) ≡ 0
  runs-against = omega (arith, step_not b a a b (λ p q. d.0 p), step_not b a b c (λ p q. d.2 q), step_not b a c a (λ p q. d.1 (sym p)))

-- ---- a list of which one member on either hand changes
module _ {A : Type 0} (g h p q : A → ℕ) (x x' y y' : ℕ) where
  pub data Changes (t : A) : Type 0 where
    stays : p t ≡ 0 → q t ≡ 0 → h t ≡ g t → Changes t
    one : p t ≡ 1 → q t ≡ 0 → g t ≡ x → h t ≡ x' → Changes t
    two : p t ≡ 0 → q t ≡ 1 → g t ≡ y → h t ≡ y' → Changes t

  pub changed : (l : List A) → ((t : A) → In t l → Changes t) → total h l + total p l * x + total q l * y ≡ total g l + total p l * x' + total q l * y'
  unfolding total
  changed [] c = omega arith
  changed (t ∷ l) c = go (c t (here refl)) (changed l (λ u i. c u (there i)))
    where
      times : {m n : ℕ} (k : ℕ) → m ≡ n → m * k ≡ n * k
      times k e = ap (λ m. m * k) e

      go : Changes t → total h l + total p l * x + total q l * y ≡ total g l + total p l * x' + total q l * y'
          → h t + total h l + (p t + total p l) * x + (q t + total q l) * y ≡ g t + total g l + (p t + total p l) * x' + (q t + total q l) * y'
      go (stays e f k) r = omega (arith, times x e, times x' e, times y f, times y' f)
      go (one e f k k') r = omega (arith, times x e, times x' e, times y f, times y' f)
      go (two e f k k') r = omega (arith, times x e, times x' e, times y f, times y' f)

-- ---- a swap
module _
    (s : Survey)
    (ts : List (Three ℕ))
    (positive : (t : Three ℕ) → In t ts → pos 0 <ℤ twice_of s t)
    (i j l r : ℕ)
    (left : Has i j l ts)
    (right : Has j i r ts)
    (once-on : runs_in i j ts ≤ 1)
    (once-back : runs_in j i ts ≤ 1)
  where
    positive-next : (t : Three ℕ) → pos 0 <ℤ twice_of s t → pos 0 <ℤ twice_of s (tri t.b t.c t.a)
    positive-next t h = rw (← turn-cycle (place_of s t.a) (place_of s t.b) (place_of s t.c)) h

    -- A triangle of the list from any of its corners.
    pub positive_at : {a b c : ℕ} → Has a b c ts → pos 0 <ℤ twice_of s (tri a b c)
    positive_at h = let q = turned_in h in turned_to (λ t. pos 0 <ℤ twice_of s t) positive-next q.2 (positive q.0 q.1)

    -- Which of the triangles a triangle is, and what becomes of it.
    pub data Case (t u : Three ℕ) : Type 0 where
      other : runs i j t ≡ 0 → runs j i t ≡ 0 → u ≡ t → Case t u
      left_one : runs i j t ≡ 1 → runs j i t ≡ 0 → Turned t i j l → u ≡ tri i r l → Case t u
      right_one : runs i j t ≡ 0 → runs j i t ≡ 1 → Turned t j i r → u ≡ tri r j l → Case t u

    own : {a b c : ℕ} {t : Three ℕ} → Turned t a b c → pos 0 <ℤ twice_of s (tri a b c) → (runs a b t ≡ 1) × (runs b a t ≡ 0)
    own {a} {b} {c} h k = (turned_same (runs a b) (runs-next a b) h ∙ runs_own s a b c k, turned_same (runs b a) (runs-next b a) h ∙ runs-against s a b c k)

    -- Of a side that is run once, its triangle is the one that is known.
    the_one : {a b c : ℕ} → Has a b c ts → runs_in a b ts ≤ 1 → (t : Three ℕ) → In t ts → 0 < runs a b t → Turned t a b c
    the_one {a} {b} {c} h most t i k =
        let q = turned_in h in
        let u = runs-turned a b t k in
        subst (λ w. Turned w a b c)
        (one_only (runs a b) ts most q.1 i (own q.2 (positive_at h)).0
        (own u.1 (turned_to (λ t. pos 0 <ℤ twice_of s t) positive-next u.1 (positive t i))).0)
        q.2

    pub case : (t : Three ℕ) → In t ts → Case t (exchange i j l r t)
    unfolding exchange
    case t k = go (dec_lt 0 (runs i j t)) (dec_lt 0 (runs j i t))
      where
        go : Dec (0 < runs i j t) → Dec (0 < runs j i t) → Case t (cond (ltb 0 (runs i j t)) (tri i r l) (cond (ltb 0 (runs j i t)) (tri r j l) t))
        go (yes p) d = let h = the_one left once-on t k p in let o = own h (positive_at left) in left_one o.0 o.1 h (rw (lt-ltb 0 (runs i j t) p))
        go (no p) (yes q) =
            let h = the_one right once-back t k q in
            let o = own h (positive_at right) in
            right_one o.1 o.0 h (rw (le-ltb 0 (runs i j t) (omega arith), lt-ltb 0 (runs j i t) q))
        go (no p) (no q) = other (omega arith) (omega arith) (rw (le-ltb 0 (runs i j t) (omega arith), le-ltb 0 (runs j i t) (omega arith)))

    -- The two triangles, in the list.
    pub run_on : runs_in i j ts ≡ 1
    run_on = let q = turned_in left in omega (arith, total_in (runs i j) q.1, (own q.2 (positive_at left)).0)

    pub run_back : runs_in j i ts ≡ 1
    run_back = let q = turned_in right in omega (arith, total_in (runs j i) q.1, (own q.2 (positive_at right)).0)

    -- Any sum over the triangles.
    pub sums : (g : Three ℕ → ℕ) → ((t : Three ℕ) → g (tri t.b t.c t.a) ≡ g t)
        → total g (map (exchange i j l r) ts) + g (tri i j l) + g (tri j i r) ≡ total g ts + g (tri i r l) + g (tri r j l)
    sums g next =
        omega (
          arith,
          total-map g (exchange i j l r) ts,
          changed g (λ t. g (exchange i j l r t)) (runs i j) (runs j i) (g (tri i j l)) (g (tri i r l)) (g (tri j i r)) (g (tri r j l)) ts (λ t k. at t (case t k)),
          times (g (tri i j l)) run_on,
          times (g (tri i r l)) run_on,
          times (g (tri j i r)) run_back,
          times (g (tri r j l)) run_back,
        )
      where
        times : {m n : ℕ} (k : ℕ) → m ≡ n → m * k ≡ n * k
        times k e = ap (λ m. m * k) e

        at : (t : Three ℕ) → Case t (exchange i j l r t)
            → Changes g (λ t. g (exchange i j l r t)) (runs i j) (runs j i) (g (tri i j l)) (g (tri i r l)) (g (tri j i r)) (g (tri r j l)) t
        at t (other p q e) = stays p q (ap g e)
        at t (left_one p q h e) = one p q (turned_same g next h) (ap g e)
        at t (right_one p q h e) = two p q (turned_same g next h) (ap g e)
