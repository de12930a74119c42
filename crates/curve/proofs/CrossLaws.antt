-- What `xor` says of its two. Assumes nothing.
use mathlib.Core.Path.{◌≡◌, refl, ap}
use mathlib.Core.Bool.{Bool, true, false, not, beq, xor, true≢false, false≢true}

-- Exactly one of the two holds, or both or none.
pub xor-true : (a b : Bool) → xor a b ≡ true → b ≡ not a
unfolding xor
xor-true true true e = absurd (false≢true e)
xor-true true false e = refl
xor-true false true e = refl
xor-true false false e = absurd (false≢true e)

pub xor-false : (a b : Bool) → xor a b ≡ false → b ≡ a
unfolding xor
xor-false true true e = refl
xor-false true false e = absurd (true≢false e)
xor-false false true e = absurd (true≢false e)
xor-false false false e = refl

pub true-xor : (a b : Bool) → b ≡ not a → xor a b ≡ true
unfolding xor
true-xor true b e = ap (xor true) e
true-xor false b e = ap (xor false) e

pub false-xor : (a b : Bool) → b ≡ a → xor a b ≡ false
unfolding xor
false-xor true b e = ap (xor true) e
false-xor false b e = ap (xor false) e

-- Two that differ: `!=` of the code.
pub differ-xor : (a b : Bool) → not (beq a b) ≡ xor a b
unfolding xor
differ-xor true true = refl
differ-xor true false = refl
differ-xor false true = refl
differ-xor false false = refl

pub xor-flip : (a b : Bool) → xor a b ≡ xor b a
unfolding xor
xor-flip true true = refl
xor-flip true false = refl
xor-flip false true = refl
xor-flip false false = refl
