-- The left corners of a sound list of triangles are those of a mesh: a triangle is found from each of its sides. Assumes nothing.
use Prim.Native.Nat.{ℕ, ◌+◌, ◌*◌, ◌≤◌, ◌<◌}
use native.Mathlib.Omega.{arith}
use mathlib.Core.Path.{◌≡◌, refl, sym, ap}
use mathlib.Core.Bool.{true}
use mathlib.Core.Option.{none, some, none-ne-some}
use mathlib.Core.List.{List, [], ◌∷◌}
use lib.ListN.{length}
use Rattle.sweep.specs.Members.{In, here, there}
use Rattle.sweep.specs.Sweep.{Three}
use Rattle.trace.specs.Side.{Directed, ◌⟶◌, bit, is_same, left_corner}
use Rattle.trace.specs.Mesh.{count, boundaries, Has, first, second, third, later, Sound}
use Rattle.trace.proofs.CountLaws.{Tested, passes, fails, tested, bit-zero, same_is, same_self}
use Rattle.trace.proofs.StepLaws.{Mesh}

-- A triangle can be named from its next corner.
pub has_turned : {a b c : ℕ} {ts : List (Three ℕ)} → Has a b c ts → Has b c a ts
has_turned first = second
has_turned second = third
has_turned third = first
has_turned (later h) = later (has_turned h)

-- Its side stands among the directed sides.
pub has_count : {a b c : ℕ} {ts : List (Three ℕ)} → Has a b c ts → 0 < count (a ⟶ b) (boundaries ts)
unfolding boundaries count
has_count (first {t}) = omega (arith, ap bit (same_self (t.a ⟶ t.b)))
has_count (second {t}) = omega (arith, ap bit (same_self (t.b ⟶ t.c)))
has_count (third {t}) = omega (arith, ap bit (same_self (t.c ⟶ t.a)))
has_count (later h) = omega (arith, has_count h)

-- What stands in the list is found, where no directed side stands twice.
pub has_left : {a b c : ℕ} {ts : List (Three ℕ)} → ((d : Directed) → count d (boundaries ts) ≤ 1) → Has a b c ts → left_corner ts (a ⟶ b) ≡ some c
unfolding boundaries count left_corner
has_left one (first {t}) = rw (same_self (t.a ⟶ t.b))
has_left one (second {t}) =
    rw (bit-zero (is_same (t.b ⟶ t.c) (t.a ⟶ t.b)) (omega (arith, one (t.b ⟶ t.c), ap bit (same_self (t.b ⟶ t.c)))), same_self (t.b ⟶ t.c))
has_left one (third {t}) =
    rw (
      bit-zero (is_same (t.c ⟶ t.a) (t.a ⟶ t.b)) (omega (arith, one (t.c ⟶ t.a), ap bit (same_self (t.c ⟶ t.a)))),
      bit-zero (is_same (t.c ⟶ t.a) (t.b ⟶ t.c)) (omega (arith, one (t.c ⟶ t.a), ap bit (same_self (t.c ⟶ t.a)))),
      same_self (t.c ⟶ t.a),
    )
has_left one (later {a} {b} {t = t} h) =
    rw (
      bit-zero (is_same (a ⟶ b) (t.a ⟶ t.b)) (omega (arith, one (a ⟶ b), has_count h)),
      bit-zero (is_same (a ⟶ b) (t.b ⟶ t.c)) (omega (arith, one (a ⟶ b), has_count h)),
      bit-zero (is_same (a ⟶ b) (t.c ⟶ t.a)) (omega (arith, one (a ⟶ b), has_count h)),
    )
    (has_left (λ d. omega (arith, one d)) h)

-- What is found stands in the list.
pub left_has : (a b c : ℕ) (ts : List (Three ℕ)) → left_corner ts (a ⟶ b) ≡ some c → Has a b c ts
unfolding left_corner
left_has a b c [] h = absurd (none-ne-some c h)
left_has a b c (t ∷ ts) h =
    by (left_has a b c ts) (tested (is_same (a ⟶ b) (t.a ⟶ t.b))) (tested (is_same (a ⟶ b) (t.b ⟶ t.c))) (tested (is_same (a ⟶ b) (t.c ⟶ t.a)))
  where
    is : (x y z : ℕ) → is_same (a ⟶ b) (x ⟶ y) ≡ true → some z ≡ some c → Has x y z (t ∷ ts) → Has a b c (t ∷ ts)
    is x y z e f g =
        let q = same_is (a ⟶ b) (x ⟶ y) e in
        let qa : a ≡ x = cc in
        let qb : b ≡ y = cc in
        let qc : c ≡ z = cc in
        rw (qa, qb, qc) g

    by : (left_corner ts (a ⟶ b) ≡ some c → Has a b c ts) → Tested (is_same (a ⟶ b) (t.a ⟶ t.b)) → Tested (is_same (a ⟶ b) (t.b ⟶ t.c))
        → Tested (is_same (a ⟶ b) (t.c ⟶ t.a)) → Has a b c (t ∷ ts)
    by ih (passes p) q r = is t.a t.b t.c p (rw p at h) first
    by ih (fails p) (passes q) r = is t.b t.c t.a q (rw (p, q) at h) second
    by ih (fails p) (fails q) (passes r) = is t.c t.a t.b r (rw (p, q, r) at h) third
    by ih (fails p) (fails q) (fails r) = later (ih (rw (p, q, r) at h))

-- A directed side with no triangle left of it is none of a triangle's.
pub none_count : (d : Directed) (ts : List (Three ℕ)) → left_corner ts d ≡ none → count d (boundaries ts) ≡ 0
unfolding boundaries count left_corner
none_count d [] h = refl
none_count d (t ∷ ts) h = by (none_count d ts) (tested (is_same d (t.a ⟶ t.b))) (tested (is_same d (t.b ⟶ t.c))) (tested (is_same d (t.c ⟶ t.a)))
  where
    by : (left_corner ts d ≡ none → count d (boundaries ts) ≡ 0) → Tested (is_same d (t.a ⟶ t.b)) → Tested (is_same d (t.b ⟶ t.c))
        → Tested (is_same d (t.c ⟶ t.a))
        → bit (is_same d (t.a ⟶ t.b)) + (bit (is_same d (t.b ⟶ t.c)) + (bit (is_same d (t.c ⟶ t.a)) + count d (boundaries ts))) ≡ 0
    by ih (passes p) q r = absurd (none-ne-some t.c (sym (rw p at h)))
    by ih (fails p) (passes q) r = absurd (none-ne-some t.a (sym (rw (p, q) at h)))
    by ih (fails p) (fails q) (passes r) = absurd (none-ne-some t.b (sym (rw (p, q, r) at h)))
    by ih (fails p) (fails q) (fails r) = omega (arith, ap bit p, ap bit q, ap bit r, ih (rw (p, q, r) at h))

-- What holds of every triangle, from whichever corner it is named, holds of one that the list has.
pub has_all : (P : ℕ → ℕ → ℕ → Type 0) → ((a b c : ℕ) → P a b c → P b c a) → {a b c : ℕ} {ts : List (Three ℕ)}
    → ((t : Three ℕ) → In t ts → P t.a t.b t.c)
    → Has a b c ts → P a b c
has_all P turn f (first {t}) = f t (here refl)
has_all P turn f (second {t}) = turn t.a t.b t.c (f t (here refl))
has_all P turn f (third {t}) = turn t.b t.c t.a (turn t.a t.b t.c (f t (here refl)))
has_all P turn f (later h) = has_all P turn (λ u i. f u (there i)) h

-- A sound list is a mesh.
pub mesh_of : (ts : List (Three ℕ)) (n : ℕ) → Sound ts n → Mesh (left_corner ts)
mesh_of ts n sound =
    record {
      turn = λ a b c h. has_left sound.single (has_turned (left_has a b c ts h));
      apart = λ a b c h. sound.apart a b c (left_has a b c ts h);
      once = λ a b c h k. sound.unshared a b c (left_has a b c ts h) (left_has b a c ts k);
    }

-- Three directed sides to a triangle.
pub boundaries-length : (ts : List (Three ℕ)) → length (boundaries ts) ≡ 3 * length ts
unfolding boundaries
boundaries-length [] = refl
boundaries-length (t ∷ ts) = omega (arith, boundaries-length ts)
