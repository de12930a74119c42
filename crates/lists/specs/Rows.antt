-- Lists of one length, one after another: what a loop that fills a slice row by row leaves in it. Assumes nothing.
use Rattle.std.specs.Prelude.{List, [], ◌++◌, ℕ, zero, suc}

-- row 0, .., row (n - 1)
abbrev pub rows {ℓ} : {A : Type ℓ} → (ℕ → List A) → ℕ → List A
rows row zero = []
rows row (suc n) = rows row n ++ row n
