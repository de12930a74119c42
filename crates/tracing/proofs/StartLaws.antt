-- Whether a half-side in a room starts a line, test by test as the code makes them. Assumes nothing.
use Prim.Native.Nat.{ℕ, ◌+◌, ◌*◌, ◌%◌, ◌≤◌, ◌<◌}
use native.Mathlib.Omega.{arith}
use native.Mathlib.Decide.{ℕ_discrete}
use borrow.Author.Tests.{eq-eqb, ne_eqb}
use mathlib.Core.Path.{◌≡◌, refl}
use mathlib.Core.Bool.{Bool, true, false, ◌&&◌}
use mathlib.Core.List.{List}
use mathlib.Core.Option.{some}
use lib.Dec.{eqb, ltb}
use lib.ListN.{length, get_or}
use Rattle.trace.specs.Crossed.{is_crossed}
use Rattle.neighbours.specs.Half.{after, corner_in, runs_by}
use Rattle.tracing.specs.Tracing.{Halves, lower_of, starts_by}
use Rattle.tracing.specs.Room.{cleared, marks_in, neighbour_in, halves_in}
use Rattle.tracing.proofs.RoomLaws.{cleared-part, marks-entry}

and-false : (t : Bool) → false ≡ (t && false)
and-false true = refl
and-false false = refl

and-true : (t : Bool) → t ≡ (t && true)
and-true true = refl
and-true false = refl

-- ---- a closed line
module _ (mesh : Halves) (below : ℕ → Bool) (marks : List ℕ) (h : ℕ) where
  abbrev crosses : Bool
  crosses = is_crossed below (runs_by mesh.corner h)

  abbrev is_free : Bool
  is_free = eqb (get_or marks (lower_of h (mesh.across h)) 0) 0

  pub start-level : crosses ≡ false → false ≡ starts_by true mesh below marks h
  unfolding starts_by
  start-level e = rw e

  pub start-marked : is_free ≡ false → false ≡ starts_by true mesh below marks h
  unfolding starts_by
  start-marked e = rw e (and-false crosses)

  pub start-closed : crosses ≡ true → is_free ≡ true → ltb (mesh.corner h) (mesh.corner (after h)) ≡ starts_by true mesh below marks h
  unfolding starts_by
  start-closed e f = rw (e, f)

-- ---- an open line
module _ (m : ℕ) (room : List ℕ) (below : ℕ → Bool) (h : ℕ) (l : h < m) (w : 2 * m ≤ length room) where
  number : neighbour_in m (cleared m m room) h ≡ get_or room (m + h) 0 % 32768
  number = cleared-part m m room h l (omega (arith, l, w))

  abbrev is_open : Bool
  is_open = starts_by false (halves_in m room) below (marks_in m room) h

  abbrev is_cut : Bool
  is_cut = is_crossed below (runs_by (corner_in (cleared m m room)) h)

  -- Nothing lies across, and there is no mark.
  pub open-hull : get_or room (m + h) 0 ≡ 32767 → is_cut ≡ is_open
  unfolding starts_by lower_of
  open-hull e =
      let a : neighbour_in m (cleared m m room) h ≡ 32767 = omega (arith, number, e) in
      let b : get_or (marks_in m room) h 0 ≡ 0 = omega (arith, marks-entry m room h l, e) in
      rw (eq-eqb _ _ a, eq-eqb _ _ b) (and-true is_cut)

  -- Something lies across, or there is a mark.
  pub open_not : (get_or room (m + h) 0 ≡ 32767 → ⊥) → false ≡ is_open
  unfolding starts_by lower_of
  open_not f = by (ℕ_discrete (neighbour_in m (cleared m m room) h) 32767)
    where
      by : Dec (neighbour_in m (cleared m m room) h ≡ 32767) → false ≡ is_open
      by (yes q) =
          let b : get_or (marks_in m room) h 0 ≡ 0 → ⊥ = λ z. f (omega (arith, number, q, marks-entry m room h l, z)) in
          rw (eq-eqb _ _ q, ne_eqb _ _ b) (and-false is_cut)
      by (no q) = rw (ne_eqb _ _ q) (both is_cut (eqb (get_or (marks_in m room) (lower_of h (some (neighbour_in m (cleared m m room) h))) 0) 0))
        where
          both : (s t : Bool) → false ≡ (s && (t && false))
          both s true = and-false s
          both s false = and-false s
