-- `Before` is a strict order in which any two places compare. Assumes nothing.
use mathlib.Core.Path.{◌≡◌}
use Prim.Native.Nat.{◌<◌}
use native.Mathlib.Omega.{arith}
use native.Mathlib.Decide.{dec_lt}
use Rattle.whole.specs.Place.{Place, Before, rightward, upward}

pub before-trans : {a b c : Place} → Before a b → Before b c → Before a c
before-trans (rightward h) (rightward k) = rightward (omega arith)
before-trans (rightward h) (upward e k) = rightward (omega arith)
before-trans (upward e h) (rightward k) = rightward (omega arith)
before-trans (upward e h) (upward f k) = upward (omega arith) (omega arith)

pub before-irrefl : {a : Place} → Before a a → ⊥
before-irrefl (rightward h) = omega arith
before-irrefl (upward e h) = omega arith

-- Two places are one, or one comes before the other.
pub data Compared (a b : Place) : Type 0 where
  same : a ≡ b → Compared a b
  earlier : Before a b → Compared a b
  later : Before b a → Compared a b

pub same_place : {a b : Place} → a.x ≡ b.x → a.y ≡ b.y → a ≡ b
same_place e f = λ i. record { x = e i; y = f i }

pub compared : (a b : Place) → Compared a b
compared a b = go (dec_lt a.x b.x) (dec_lt b.x a.x) (dec_lt a.y b.y) (dec_lt b.y a.y)
  where
    go : Dec (a.x < b.x) → Dec (b.x < a.x) → Dec (a.y < b.y) → Dec (b.y < a.y) → Compared a b
    go (yes h) _ _ _ = earlier (rightward h)
    go (no h) (yes k) _ _ = later (rightward k)
    go (no h) (no k) (yes l) _ = earlier (upward (omega arith) l)
    go (no h) (no k) (no l) (yes m) = later (upward (omega arith) m)
    go (no h) (no k) (no l) (no m) = same (same_place (omega arith) (omega arith))
