-- What the lines ask of a list of triangles. Assumes nothing.
use Rattle.std.specs.Prelude.{List, [], ◌∷◌, ◌≡◌, ℕ, ◌+◌, ◌≤◌, ◌<◌}
use Rattle.sweep.specs.Sweep.{Three}
use Rattle.trace.specs.Side.{Directed, ◌⟶◌, bit, is_same}

-- How often d stands in a list.
unfoldable pub count : Directed → List Directed → ℕ
count d [] = 0
count d (x ∷ l) = bit (is_same d x) + count d l

-- The directed sides of all triangles, each as its triangle's boundary runs.
unfoldable pub boundaries : List (Three ℕ) → List Directed
boundaries [] = []
boundaries (t ∷ ts) = t.a ⟶ t.b ∷ t.b ⟶ t.c ∷ t.c ⟶ t.a ∷ boundaries ts

-- A triangle of the list, named from any of its corners.
pub data Has : ℕ → ℕ → ℕ → List (Three ℕ) → Type 0 where
  first : {t : Three ℕ} {ts : List (Three ℕ)} → Has t.a t.b t.c (t ∷ ts)
  second : {t : Three ℕ} {ts : List (Three ℕ)} → Has t.b t.c t.a (t ∷ ts)
  third : {t : Three ℕ} {ts : List (Three ℕ)} → Has t.c t.a t.b (t ∷ ts)
  later : {a b c : ℕ} {t : Three ℕ} {ts : List (Three ℕ)} → Has a b c ts → Has a b c (t ∷ ts)

-- Each directed side is run by one triangle at most; the corners of a triangle differ; no triangle stands both ways round; and
-- corners are stations below n.
pub record Sound (ts : List (Three ℕ)) (n : ℕ) : Type 0 where
  pub single : (d : Directed) → count d (boundaries ts) ≤ 1
  pub apart : (a b c : ℕ) → Has a b c ts → a ≡ b → ⊥
  pub unshared : (a b c : ℕ) → Has a b c ts → Has b a c ts → ⊥
  pub within : (a b c : ℕ) → Has a b c ts → a < n
