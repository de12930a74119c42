-- The list of a function's first values: what a loop that fills a slice leaves in it. Assumes nothing.
use Rattle.std.specs.Prelude.{List, [], ◌∷◌, ◌++◌, ℕ, zero, suc}

-- f 0, .., f (n - 1)
abbrev pub table {ℓ} : {A : Type ℓ} → (ℕ → A) → ℕ → List A
table f zero = []
table f (suc n) = table f n ++ (f n ∷ [])
