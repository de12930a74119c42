-- How long the bytes of a line are, and its digits one by one. Assumes nothing.
use mathlib.Core.Path.{◌≡◌, ap}
use mathlib.Core.Bool.{Bool, true, false, cond}
use mathlib.Core.List.{List, [], ◌∷◌, ◌++◌}
use Prim.Native.Nat.{ℕ, zero, suc, ◌+◌, ◌-◌, ◌/◌, ◌%◌, ◌≤◌, ◌<◌}
use native.Mathlib.Omega.{arith}
use borrow.Author.Tests.{lt-ltb, le-ltb}
use lib.Dec.{ltb}
use lib.ListN.{length, length-append}
use Rattle.shapes.specs.declared.line.Kind.{Kind}
use Rattle.shapes.specs.declared.line.Kind.TheVariants.{Natural, Whole, Tag, Choice}
use Rattle.shapes.specs.declared.line.Shape.{Shape}
use Rattle.shapes.specs.Line.{hyphen, zero_at}
use Rattle.shapes.specs.Bytes.{digits_of, digits, whole_bytes, chosen_of, value_bytes, line_bytes}

cond-length : (t : Bool) (l m : List ℕ) (k : ℕ) → length l ≤ k → length m ≤ k → length (cond t l m) ≤ k
cond-length true l m k a b = a
cond-length false l m k a b = b

pub digits-length : (base from k n : ℕ) → length (digits_of base from k n) ≤ k
unfolding digits_of
digits-length base from zero n = omega arith
digits-length base from (suc k) n =
    cond-length (ltb n base) ((from + n) ∷ []) (digits_of base from k (n / base) ++ ((from + n % base) ∷ [])) (suc k) (omega arith)
    (simp length-append (omega (arith, digits-length base from k (n / base))))

-- One digit, and one digit more.
pub digits_one : (base from k n : ℕ) → n < base → 1 ≤ k → digits_of base from k n ≡ (from + n) ∷ []
unfolding digits_of
digits_one base from zero n h i = absurd (omega arith)
digits_one base from (suc k) n h i = rw (lt-ltb n base h)

pub digits_more : (base from k n : ℕ) → base ≤ n → 1 ≤ k
    → digits_of base from k n ≡ digits_of base from (k - 1) (n / base) ++ ((from + n % base) ∷ [])
unfolding digits_of
digits_more base from zero n h i = absurd (omega arith)
digits_more base from (suc k) n h i =
    let e : k ≡ suc k - 1 = omega arith in
    rw (le-ltb n base h) (ap (λ (j : ℕ). digits_of base from j (n / base) ++ ((from + n % base) ∷ [])) e)

pub digits_none : (base from k n : ℕ) → k ≡ 0 → digits_of base from k n ≡ []
unfolding digits_of
digits_none base from k n h = ap (λ (j : ℕ). digits_of base from j n) h

pub whole-minus : (v : ℕ) → v < zero_at → whole_bytes v ≡ hyphen ∷ digits (zero_at - v)
whole-minus v h = rw (lt-ltb v zero_at h)

pub whole_plain : (v : ℕ) → zero_at ≤ v → whole_bytes v ≡ digits (v - zero_at)
whole_plain v h = rw (le-ltb v zero_at h)

whole_length : (v : ℕ) → length (whole_bytes v) ≤ 20
whole_length v =
    cond-length (ltb v zero_at) (hyphen ∷ digits (zero_at - v)) (digits (v - zero_at)) 20
    (omega (arith, digits-length 10 48 19 (zero_at - v))) (omega (arith, digits-length 10 48 19 (v - zero_at)))

pub value-length : (k : Kind) (v : ℕ) → length (value_bytes k v) ≤ 20
unfolding value_bytes
value-length (Natural a b) v = omega (arith, digits-length 10 48 19 v)
value-length (Whole a b) v = whole_length v
value-length Tag v = omega (arith, digits-length 256 0 8 v)
value-length (Choice a b) v = omega (arith, digits-length 256 0 8 (chosen_of a b v))

pub line-length : (s : Shape) (v : ℕ) → length (line_bytes s v) ≤ 30
line-length s v =
    simp length-append (omega (arith, digits-length 256 0 8 s.key, value-length s.kind v))
