-- NZ is that of the places alone, so p's, q's and z's are one. Assumes nothing.
use mathlib.Core.Path.{◌≡◌, refl, ap}
use mathlib.Core.List.{List, [], ◌∷◌, map}
use Prim.Native.Nat.{ℕ}
use lib.IntN.{ℤ}
use Rattle.survey.specs.Survey.{Survey}
use Rattle.nearest.specs.Nearest.{neighbours}
use Rattle.normal.specs.declared.Normal.{Normal}
use Rattle.normal.specs.Normal.{normal_of, none, added_part, added, added_with, added_all, step_to, normal_at}

with_nz :
    (s : Survey) (i : ℕ) (h k : ℕ → ℤ) (m n : Normal) (a : ℕ) (l : List ℕ) → m.nz ≡ n.nz
    → (added_with m (step_to s h i a) (map (step_to s h i) l)).nz ≡ (added_with n (step_to s k i a) (map (step_to s k i) l)).nz
unfolding added
with_nz s i h k m n a [] e = e
with_nz s i h k m n a (b ∷ l) e =
    let of-h = normal_of (step_to s h i a) (step_to s h i b) in
    let of-k = normal_of (step_to s k i a) (step_to s k i b) in
    with_nz s i h k (added m of-h) (added n of-k) a l (ap (λ (x : ℤ). added_part x of-h.nz of-h.nz) e)

all_nz :
    (s : Survey) (i : ℕ) (h k : ℕ → ℤ) (m n : Normal) (l : List ℕ) → m.nz ≡ n.nz
    → (added_all m (map (step_to s h i) l)).nz ≡ (added_all n (map (step_to s k i) l)).nz
all_nz s i h k m n [] e = e
all_nz s i h k m n (a ∷ l) e =
    all_nz s i h k (added_with m (step_to s h i a) (map (step_to s h i) l)) (added_with n (step_to s k i a) (map (step_to s k i) l)) l (with_nz s i h k m n a l e)

pub nz_same : (s : Survey) (h k : ℕ → ℤ) (i : ℕ) → (normal_at s h i).nz ≡ (normal_at s k i).nz
unfolding normal_at
nz_same s h k i = all_nz s i h k none none (neighbours s i) refl
