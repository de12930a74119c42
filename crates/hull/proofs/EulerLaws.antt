-- Two lists of triangles on the stations of a survey that have one boundary, and hold no station but at their corners, have as many
-- triangles: `same_count`. Assumes nothing.
--
-- Count a station P for a triangle by the sides that span it, as `Spans` does: with the triangle one more than against it, or as many.
-- It is one more only where the triangle holds P, so only at a corner; and it is so at the corner P that one side rises to and
-- another rises from (`at_corner`). A triangle has one side that rises, or two, and then one such corner: over all stations it
-- counts one less than it has sides that rise (`one_more`). What is counted over all triangles, at each station, and by how much more
-- sides rise than fall, depend on the boundary alone. And of each triangle's three sides each rises or falls.
use mathlib.Core.Path.{◌≡◌, refl, sym, ap, ◌∙◌, subst}
use mathlib.Core.List.{List, [], ◌∷◌}
use Prim.Native.Nat.{ℕ, ◌+◌, ◌*◌, ◌<◌}
use native.Mathlib.Omega.{arith}
use native.Mathlib.Decide.{dec_lt}
use lib.IntN.{pos}
use lib.ListN.{length}
use lib.Signed.{◌<ℤ◌}
use Rattle.whole.specs.Place.{Place, Before}
use Rattle.whole.specs.Turn.{turn}
use Rattle.whole.proofs.Bridge.{int, minus}
use Rattle.whole.proofs.OrderLaws.{Compared, compared, before-trans, before-irrefl, same, earlier, later}
use Rattle.whole.proofs.TurnLaws.{turn-swap, turn-cycle}
use Rattle.survey.specs.Fit.{Fit}
use Rattle.survey.specs.Survey.{Survey, count, place_of}
use Rattle.sweep.specs.Boundary.{around, back}
use Rattle.sweep.specs.Cover.{Corner, at_a, at_b, at_c, Holds}
use Rattle.sweep.specs.Members.{In, here, there, total}
use Rattle.sweep.specs.Sweep.{Triangle, tri}
use Rattle.sweep.proofs.Spans.{before?, counts, spans, counted, above_one, above_zero, on_from, on_to}
use Rattle.hull.proofs.GridLaws.{sum_to, sum-agree, sum-add, sum-three}
use Rattle.hull.proofs.OutlineLaws.{one?}
use Rattle.hull.proofs.OutlineLaws as outline
use Rattle.triangles.proofs.SurveyLaws.{SurveyMesh}

-- 1 at a side that rises.
rises : Place → Place → ℕ
rises a b = one? (before? a b)

-- Two different places rise one way.
one_way : (a b : Place) → (a ≡ b → ⊥) → rises a b + rises b a ≡ 1
unfolding rises
one_way a b d = go (before? a b) (before? b a)
  where
    go : (x : Dec (Before a b)) (y : Dec (Before b a)) → one? x + one? y ≡ 1
    go (yes x) (yes y) = absurd (before-irrefl (before-trans x y))
    go (yes x) (no y) = refl
    go (no x) (yes y) = refl
    go (no x) (no y) = absurd (none (compared a b))
      where
        none : Compared a b → ⊥
        none (same e) = d e
        none (earlier l) = x l
        none (later l) = y l

-- ---- one triangle
module _ (a b c : Place) (left : pos 0 <ℤ turn a b c) where
  -- Its corners are three.
  apart : (a ≡ b → ⊥) × (b ≡ c → ⊥) × (c ≡ a → ⊥)
  apart = (
    λ e. omega (arith, int, turn-cycle a b c, turn-cycle b c a, on_to c a b (sym e), left),
    λ e. omega (arith, int, on_to a b c (sym e), left),
    λ e. omega (arith, int, on_from a b c e, left),
  )

  -- A corner counts where one side rises to it and another from it.
  at_corner : around (spans a) (tri a b c) ≡ around (back (spans a)) (tri a b c) + rises c a * rises a b
  unfolding spans rises
  at_corner = go (before? a a) (before? a b) (before? a c) (before? c a)
    where
      go : (aa : Dec (Before a a)) (ab : Dec (Before a b)) (ac : Dec (Before a c)) (ca : Dec (Before c a))
          → counts aa ab (turn a b a) + counts ab ac (turn b c a) + counts ac aa (turn c a a)
          ≡ counts ab aa (turn b a a) + counts ac ab (turn c b a) + counts aa ac (turn a c a) + one? ca * one? ab
      go (yes x) ab ac ca = absurd (before-irrefl x)
      go (no x) (yes y) (yes z) (yes w) = absurd (before-irrefl (before-trans z w))
      go (no x) (yes y) (yes z) (no w) =
          omega (
            arith,
            above_one {z = turn a b a} (omega (arith, int, on_from a b a refl)),
            above_one {z = turn a c a} (omega (arith, int, on_from a c a refl)),
          )
      go (no x) (yes y) (no z) (yes w) =
          omega (
            arith,
            above_one {z = turn a b a} (omega (arith, int, on_from a b a refl)),
            above_zero {z = turn c b a} (omega (arith, int, turn-swap c b a, minus (pos 0) (turn b c a), turn-cycle a b c, left)),
          )
      go (no x) (yes y) (no z) (no w) = absurd (none (compared a c) z w)
        where
          none : Compared a c → (Before a c → ⊥) → (Before c a → ⊥) → ⊥
          none (same e) p q = apart.2 (sym e)
          none (earlier l) p q = p l
          none (later l) p q = q l
      go (no x) (no y) (yes z) ca =
          omega (
            arith,
            above_one {z = turn b c a} (omega (arith, int, turn-cycle a b c, left)),
            above_one {z = turn a c a} (omega (arith, int, on_from a c a refl)),
          )
      go (no x) (no y) (no z) ca = omega arith

  three-sides : around rises (tri a b c) + around (back rises) (tri a b c) ≡ 3
  three-sides = omega (arith, one_way a b apart.0, one_way b c apart.1, one_way c a apart.2)

  -- Not all three sides rise, and not all fall.
  one_or-two : rises c a * rises a b + rises a b * rises b c + rises b c * rises c a + 1 ≡ around rises (tri a b c)
  unfolding rises
  one_or-two = go (before? a b) (before? b c) (before? c a)
    where
      after : (a b : Place) → (a ≡ b → ⊥) → (Before a b → ⊥) → Before b a
      after a b d n = at (compared a b)
        where
          at : Compared a b → Before b a
          at (same e) = absurd (d e)
          at (earlier l) = absurd (n l)
          at (later l) = l

      go : (x : Dec (Before a b)) (y : Dec (Before b c)) (z : Dec (Before c a))
          → one? z * one? x + one? x * one? y + one? y * one? z + 1 ≡ one? x + one? y + one? z
      go (yes x) (yes y) (yes z) = absurd (before-irrefl (before-trans x (before-trans y z)))
      go (yes x) (yes y) (no z) = refl
      go (yes x) (no y) (yes z) = refl
      go (yes x) (no y) (no z) = refl
      go (no x) (yes y) (yes z) = refl
      go (no x) (yes y) (no z) = refl
      go (no x) (no y) (yes z) = refl
      go (no x) (no y) (no z) =
          absurd (before-irrefl (before-trans (after a b apart.0 x) (before-trans (after c a apart.2 z) (after b c apart.1 y))))

-- ---- over the stations of a survey
module _ (s : Survey) (fit : Fit s) (m : SurveyMesh s) where
  -- A triangle on stations that holds none but at its corners.
  pub record Sound (t : Triangle) : Type 0 where
    pub left : pos 0 <ℤ turn t.a t.b t.c
    pub in_a : outline.Station s fit m t.a
    pub in_b : outline.Station s fit m t.b
    pub in_c : outline.Station s fit m t.c
    pub clear : (w : Place) → outline.Station s fit m w → Holds turn t w → Corner w t

  with_it : ℕ → Triangle → ℕ
  with_it k t = around (spans (place_of s k)) t

  against_it : ℕ → Triangle → ℕ
  against_it k t = around (back (spans (place_of s k))) t

  one_more : (t : Triangle) → Sound t → sum_to (λ k. with_it k t) (count s) + 1 ≡ sum_to (λ k. against_it k t) (count s) + around rises t
  unfolding with_it against_it
  one_more t sound =
      omega (
        arith,
        sum-three (λ k. with_it k t) (λ k. against_it k t) a.0 b.0 c.0 (count s) a.1 b.1 c.1
            (λ e. d.0 (a.2 ∙ ap (place_of s) e ∙ sym b.2)) (λ e. d.1 (b.2 ∙ ap (place_of s) e ∙ sym c.2))
            (λ e. d.2 (c.2 ∙ ap (place_of s) e ∙ sym a.2)) other,
        subst (λ w. around (spans w) t ≡ around (back (spans w)) t + rises t.c t.a * rises t.a t.b) a.2
            (at_corner t.a t.b t.c left),
        subst (λ w. around (spans w) t ≡ around (back (spans w)) t + rises t.a t.b * rises t.b t.c) b.2
            (omega (arith, at_corner t.b t.c t.a (rw (← turn-cycle t.a t.b t.c) left))),
        subst (λ w. around (spans w) t ≡ around (back (spans w)) t + rises t.b t.c * rises t.c t.a) c.2
            (omega (arith, at_corner t.c t.a t.b (rw (turn-cycle t.c t.a t.b) left))),
        one_or-two t.a t.b t.c left,
      )
    where
      left : pos 0 <ℤ turn t.a t.b t.c
      left = sound.left

      a : (k : ℕ) × (k < count s) × (t.a ≡ place_of s k)
      a = outline.station_of s fit m t.a sound.in_a

      b : (k : ℕ) × (k < count s) × (t.b ≡ place_of s k)
      b = outline.station_of s fit m t.b sound.in_b

      c : (k : ℕ) × (k < count s) × (t.c ≡ place_of s k)
      c = outline.station_of s fit m t.c sound.in_c

      d : (t.a ≡ t.b → ⊥) × (t.b ≡ t.c → ⊥) × (t.c ≡ t.a → ⊥)
      d = apart t.a t.b t.c left

      -- A station that is no corner is not held.
      other : (k : ℕ) → k < count s → (k ≡ a.0 → ⊥) → (k ≡ b.0 → ⊥) → (k ≡ c.0 → ⊥) → with_it k t ≡ against_it k t
      other k l na nb nc = go (dec_lt (against_it k t) (with_it k t))
        where
          cornered : Corner (place_of s k) t → ⊥
          cornered (at_a e) = na (outline.one_place s fit m k a.0 l a.1 (e ∙ a.2))
          cornered (at_b e) = nb (outline.one_place s fit m k b.0 l b.1 (e ∙ b.2))
          cornered (at_c e) = nc (outline.one_place s fit m k c.0 l c.1 (e ∙ c.2))

          go : Dec (against_it k t < with_it k t) → with_it k t ≡ against_it k t
          go (yes h) = absurd (cornered (sound.clear (place_of s k) (outline.station-at s fit m k l) ((counted t (place_of s k) left).hit h)))
          go (no h) = omega (arith, (counted t (place_of s k) left).least)

  -- ---- over triangles
  all_more : (ts : List Triangle) → ((t : Triangle) → In t ts → Sound t)
      → sum_to (λ k. total (with_it k) ts) (count s) + length ts ≡ sum_to (λ k. total (against_it k) ts) (count s) + total (around rises) ts
  unfolding total
  all_more [] h = refl
  all_more (t ∷ ts) h =
      omega (
        arith,
        sum-add (λ k. with_it k t) (λ k. total (with_it k) ts) (count s),
        sum-add (λ k. against_it k t) (λ k. total (against_it k) ts) (count s),
        one_more t (h t (here refl)),
        all_more ts (λ u i. h u (there i)),
      )

  all_sides : (ts : List Triangle) → ((t : Triangle) → In t ts → Sound t) → total (around rises) ts + total (around (back rises)) ts ≡ 3 * length ts
  unfolding total
  all_sides [] h = refl
  all_sides (t ∷ ts) h = omega (arith, three-sides t.a t.b t.c (h t (here refl)).left, all_sides ts (λ u i. h u (there i)))

  -- One boundary.
  module _ (ts us : List Triangle) (ht : (t : Triangle) → In t ts → Sound t) (hu : (u : Triangle) → In u us → Sound u)
      (alike : (g : Place → Place → ℕ) → total (around g) ts + total (around (back g)) us ≡ total (around (back g)) ts + total (around g) us) where
    pub same_count : length ts ≡ length us
    unfolding with_it against_it
    same_count =
        omega (
          arith,
          all_more ts ht,
          all_more us hu,
          all_sides ts ht,
          all_sides us hu,
          alike rises,
          sum-agree (λ k. total (with_it k) ts + total (against_it k) us) (λ k. total (against_it k) ts + total (with_it k) us) (count s)
              (λ k l. alike (spans (place_of s k))),
          sum-add (λ k. total (with_it k) ts) (λ k. total (against_it k) us) (count s),
          sum-add (λ k. total (against_it k) ts) (λ k. total (with_it k) us) (count s),
        )
