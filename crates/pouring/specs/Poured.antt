-- Bytes put into a lent room, and the lowest digits of a number. Assumes nothing.
use Rattle.std.specs.Prelude.{List, [], ◌∷◌, ◌++◌, ℕ, zero, suc, ◌+◌, ◌/◌, ◌%◌, set}

-- Bytes put into a room from a place on; what has no room is dropped.
unfoldable pub poured : List ℕ → ℕ → List ℕ → List ℕ
poured old at [] = old
poured old at (b ∷ bs) = poured (set old at b) (at + 1) bs

-- The lowest digits of n in a base, leading zeros among them; `from` is the byte of digit 0.
unfoldable pub low : ℕ → ℕ → ℕ → ℕ → List ℕ
low base from zero n = []
low base from (suc count) n = low base from count (n / base) ++ ((from + n % base) ∷ [])

-- Four digits, leading zeros among them.
abbrev pub four : ℕ → List ℕ
four n = (48 + n / 1000) ∷ (48 + n / 100 % 10) ∷ (48 + n / 10 % 10) ∷ (48 + n % 10) ∷ []
