-- THE LINES: what is promised of them holds of the lines of every sound mesh, and of no other answer. Assumes nothing.
use Prim.Native.Nat.{ℕ, ◌*◌, ◌≤◌}
use native.Mathlib.Omega.{arith}
use mathlib.Core.Path.{◌≡◌, refl, sym, ◌∙◌}
use mathlib.Core.Bool.{Bool, true, false, cond, beq}
use mathlib.Core.Option.{Option, none, some, none-ne-some}
use mathlib.Core.Logic.{◌⊎◌, inl, inr}
use mathlib.Core.List.{List, [], ◌∷◌, map}
use lib.ListN.{length, length-append, length-map}
use Rattle.sweep.specs.Sweep.{Three}
use Rattle.trace.specs.Side.{Directed, ◌⟶◌, reversed, side_of, left_corner}
use Rattle.trace.specs.Crossed.{crossed}
use Rattle.trace.specs.Lines.{Line, line, lines, vertices}
use Rattle.trace.specs.Walk.{next}
use Rattle.trace.specs.Mesh.{count, Sound}
use Rattle.trace.specs.Rule.{Rule}
use Rattle.trace.specs.Promise.{Share, Outer, last_of, Neighbours, Sensible, open-line, closed-line, Every, Meets}
use Rattle.trace.proofs.MeshLaws.{has_left, left_has, mesh_of}
use Rattle.trace.proofs.OrderLaws.{crossed-sorted}
use Rattle.trace.proofs.LineLaws.{Links, Good, good-open, good-closed}
use Rattle.trace.proofs.TraceLaws.{All, Traced, vertices-cons, lines-traced}
use Rattle.trace.proofs.CrossedLaws.{crossed_once, crossed-proper, crossed-even, crossed-few, crossed-less}
use Rattle.trace.proofs.OnlyLaws.{rule-unique}

module _ (ts : List (Three ℕ)) (below : ℕ → Bool) (n : ℕ) (sound : Sound ts n) where
  -- A step is over a triangle.
  share : (d y : Directed) → next (left_corner ts) below d ≡ some y → Share ts d y
  unfolding next
  share (a ⟶ b) y h = by (left_corner ts (a ⟶ b)) refl
    where
      way : (t : Bool) (c : ℕ) → some (cond t (a ⟶ c) (c ⟶ b)) ≡ some y → (y ≡ a ⟶ c) ⊎ (y ≡ c ⟶ b)
      way true c e = inl (cc)
      way false c e = inr (cc)

      by : (m : Option ℕ) → left_corner ts (a ⟶ b) ≡ m → Share ts (a ⟶ b) y
      by none q = absurd (none-ne-some y (rw q at h))
      by (some c) q = (c, left_has a b c ts q, way (beq (below c) (below b)) c (rw q at h))

  neighbours : (d : Directed) (p : List Directed) → Links (next (left_corner ts) below) d p → Neighbours ts d p
  neighbours d [] h = tt
  neighbours d (y ∷ p) h = (share d y h.0, neighbours y p h.1)

  -- Where no third corner is found no triangle is.
  outer : (d : Directed) → left_corner ts d ≡ none → Outer ts d
  outer (a ⟶ b) h = λ c k. none-ne-some c (sym h ∙ has_left sound.single k)

  sensible : (l : Line) → Good (left_corner ts) below l → Sensible ts l
  sensible l (good-open {s = s} {p = p} h e k r) =
      open-line {s = s} {p = p} (outer (reversed s) h) (outer (last_of s p) e) (omega arith) (neighbours s p r)
  sensible l (good-closed {s = s} {p = p} v e k r) = closed-line {s = s} {p = p} v (share (last_of s p) s e) (omega arith) (neighbours s p r)

  every : (ls : List Line) → All (left_corner ts) below ls → Every ts ls
  every [] g = tt
  every (l ∷ ls) g = (sensible l g.0, every ls g.1)

  -- Two vertices or more to a line.
  good-two : {c : Bool} {p : List Directed} → Good (left_corner ts) below (line c p) → 2 ≤ length p
  good-two (good-open a b k l) = omega arith
  good-two (good-closed v a k l) = omega arith

  lines-half : (ls : List Line) → All (left_corner ts) below ls → 2 * length ls ≤ length (vertices ls)
  lines-half [] g = omega arith
  lines-half (line c p ∷ ls) g =
      rw (vertices-cons c p ls) (omega (arith, length-append (map side_of p) (vertices ls), length-map p side_of, good-two g.0, lines-half ls g.1))

  traced : Rule (left_corner ts) below (crossed (left_corner ts) below n) (lines ts below n)
      × Traced (left_corner ts) below (crossed (left_corner ts) below n) (lines ts below n) []
  unfolding lines
  traced =
      lines-traced (left_corner ts) below (mesh_of ts n sound) (3 * length ts) (crossed (left_corner ts) below n)
      (record {
        even = crossed-even ts n sound below;
        proper = crossed-proper ts n sound below;
        sorted = crossed-sorted (left_corner ts) below n;
        short = crossed-few ts n sound below;
        few = crossed-few ts n sound below;
      })

  -- The lines of a sound mesh are as document 01 says.
  pub lines-meet : Meets ts below n (lines ts below n)
  unfolding count
  lines-meet =
      record {
        rule = traced.0;
        each = λ d. omega (arith, traced.1.once d, crossed_once ts n sound below d);
        sensible = every (lines ts below n) traced.1.good;
        total = total;
        most = omega (arith, total, crossed-less ts n sound below);
        half = lines-half (lines ts below n) traced.1.good;
      }
    where
      total : length (vertices (lines ts below n)) ≡ length (crossed (left_corner ts) below n)
      total = omega (arith, traced.1.size)

  -- No second answer fits.
  pub lines-unique : (ls : List Line) → Meets ts below n ls → ls ≡ lines ts below n
  lines-unique ls m = rule-unique m.rule lines-meet.rule
