-- `circle_at` meets its contract: its products and sums, on coordinates up to 8,191, fit an i64 and are `circle` as it is written.
-- Assumes nothing.
use mathlib.Core.Path.{◌≡◌, sym, ◌∙◌, subst}
use native.Mathlib.Omega.{arith}
use Prim.Native.Nat.{ℕ, ◌≤◌}
use lib.IntN.{ℤ, ◌+ℤ◌, ◌*ℤ◌}
use mir.Syntax.{w64}
use Rattle.whole.specs.Place.{place}
use Rattle.whole.specs.Range.{Within}
use Rattle.whole.specs.Turn.{turn}
use Rattle.whole.proofs.Expression.{Signed, var, ◌⊕◌, ◌⊗◌, InBounds, holds, fits}
use Rattle.circle.specs.Circle.{apart, circle}
use Rattle.circle.proofs.RangeLaws.{InRange, apart-within, turn-within}
use Rattle.circle.proofs.circle_at.Goals as goal

-- a squared distance times twice an area, and the three of them
abbrev product : ℤ → ℤ → Signed
product a t = var a 134184962 ⊗ var t 134184962

abbrev whole : ℤ → ℤ → ℤ → ℤ → ℤ → ℤ → Signed
whole a t b u d v = product a t ⊕ product b u ⊕ product d v

in_range : {x y : ℕ} → x ≤ 8191 → y ≤ 8191 → InRange (place x y)
in_range h k = record { x-most = h; y-most = k }

apart_in : {z : ℤ} (ax ay bx by : ℕ) → z ≡ apart (place ax ay) (place bx by) → ax ≤ 8191 → ay ≤ 8191 → bx ≤ 8191 → by ≤ 8191 → Within 134184962 z
apart_in ax ay bx by e a b c d =
    subst (Within 134184962) (sym e)
    (apart-within (place ax ay) (place bx by) (place ax ay) (place ax ay) (in_range a b) (in_range c d) (in_range a b) (in_range a b))

turn_in : {z : ℤ} (ax ay bx by cx cy : ℕ) → z ≡ turn (place ax ay) (place bx by) (place cx cy)
    → ax ≤ 8191 → ay ≤ 8191 → bx ≤ 8191 → by ≤ 8191 → cx ≤ 8191 → cy ≤ 8191 → Within 134184962 z
turn_in ax ay bx by cx cy e a b c d f g =
    subst (Within 134184962) (sym e)
    (turn-within (place ax ay) (place bx by) (place cx cy) (place ax ay) (in_range a b) (in_range c d) (in_range f g) (in_range a b))

-- The six numbers are within their bounds.
bounds : {a t b u d v : ℤ} (ax ay bx by cx cy dx dy : ℕ)
    → (ax ≤ 8191) × (ay ≤ 8191) × (bx ≤ 8191) × (by ≤ 8191) × (cx ≤ 8191) × (cy ≤ 8191) × (dx ≤ 8191) × (dy ≤ 8191)
    → a ≡ apart (place ax ay) (place dx dy) → t ≡ turn (place bx by) (place cx cy) (place dx dy)
    → b ≡ apart (place bx by) (place dx dy) → u ≡ turn (place cx cy) (place ax ay) (place dx dy)
    → d ≡ apart (place cx cy) (place dx dy) → v ≡ turn (place ax ay) (place bx by) (place dx dy)
    → InBounds (whole a t b u d v)
bounds ax ay bx by cx cy dx dy p ea et eb eu ed ev = (
  (
    (apart_in ax ay dx dy ea p.0 p.1 p.6 p.7, turn_in bx by cx cy dx dy et p.2 p.3 p.4 p.5 p.6 p.7),
    (apart_in bx by dx dy eb p.2 p.3 p.6 p.7, turn_in cx cy ax ay dx dy eu p.4 p.5 p.0 p.1 p.6 p.7),
  ),
  (apart_in cx cy dx dy ed p.4 p.5 p.6 p.7, turn_in ax ay bx by dx dy ev p.0 p.1 p.2 p.3 p.6 p.7),
)

pub turn_at-requires : goal.turn_at-requires
turn_at-requires c = omega arith

pub overflow_mul-a : goal.overflow_mul-a
overflow_mul-a c =
    let p = c.requires in
    fits w64 (product c.apart_at.result c.turn_at.result) (
      apart_in _ _ _ _ c.apart_at.ensures p.0 p.1 p.6 p.7,
      turn_in _ _ _ _ _ _ c.turn_at.ensures p.2 p.3 p.4 p.5 p.6 p.7,
    ) tt

pub turn_at-requires-2 : goal.turn_at-requires-2
turn_at-requires-2 c = omega arith

pub overflow_mul-b : goal.overflow_mul-b
overflow_mul-b c =
    let p = c.requires in
    fits w64 (product c.apart_at-2.result c.turn_at-2.result) (
      apart_in _ _ _ _ c.apart_at-2.ensures p.2 p.3 p.6 p.7,
      turn_in _ _ _ _ _ _ c.turn_at-2.ensures p.4 p.5 p.0 p.1 p.6 p.7,
    ) tt

pub turn_at-requires-3 : goal.turn_at-requires-3
turn_at-requires-3 c = omega arith

pub overflow_mul-c : goal.overflow_mul-c
overflow_mul-c c =
    let p = c.requires in
    fits w64 (product c.apart_at-3.result c.turn_at-3.result) (
      apart_in _ _ _ _ c.apart_at-3.ensures p.4 p.5 p.6 p.7,
      turn_in _ _ _ _ _ _ c.turn_at-3.ensures p.0 p.1 p.2 p.3 p.6 p.7,
    ) tt

pub overflow_add-result : goal.overflow_add-result
overflow_add-result c =
    fits w64 (product c.apart_at.result c.turn_at.result ⊕ product c.apart_at-2.result c.turn_at-2.result)
    (bounds _ _ _ _ _ _ _ _ c.requires
    c.apart_at.ensures c.turn_at.ensures c.apart_at-2.ensures c.turn_at-2.ensures c.apart_at-3.ensures c.turn_at-3.ensures).0 tt

pub overflow_add-result-2 : goal.overflow_add-result-2
overflow_add-result-2 c =
    fits w64 (whole c.apart_at.result c.turn_at.result c.apart_at-2.result c.turn_at-2.result c.apart_at-3.result c.turn_at-3.result)
    (bounds _ _ _ _ _ _ _ _ c.requires
    c.apart_at.ensures c.turn_at.ensures c.apart_at-2.ensures c.turn_at-2.ensures c.apart_at-3.ensures c.turn_at-3.ensures) tt

pub returns : goal.returns
unfolding circle
returns c =
    holds w64 (whole c.apart_at.result c.turn_at.result c.apart_at-2.result c.turn_at-2.result c.apart_at-3.result c.turn_at-3.result) (bounds _ _ _ _ _ _ _ _ c.requires
    c.apart_at.ensures c.turn_at.ensures c.apart_at-2.ensures c.turn_at-2.ensures c.apart_at-3.ensures c.turn_at-3.ensures) tt
    ∙ (λ n. c.apart_at.ensures n *ℤ c.turn_at.ensures n +ℤ c.apart_at-2.ensures n *ℤ c.turn_at-2.ensures n +ℤ c.apart_at-3.ensures n *ℤ c.turn_at-3.ensures n)
