-- Negating all heights negates NX and NY of every station and leaves NZ, which no height touches. Assumes nothing.
--
-- A step's rise is negated; so are NX and NY of a pair, which have one rise in each product; and NZ, which decides the signs, has none.
use mathlib.Core.Path.{◌≡◌, refl, ap, ◌∙◌}
use mathlib.Core.Bool.{Bool, true, false, cond}
use mathlib.Core.List.{List, [], ◌∷◌, map}
use Prim.Native.Nat.{ℕ}
use lib.IntN.{ℤ, pos, neg_ℤ, ◌+ℤ◌, ◌-ℤ◌, ◌*ℤ◌}
use lib.Signed.{lt_z}
use Rattle.whole.specs.Turn.{across, climb}
use Rattle.survey.specs.Survey.{Survey, place_of}
use Rattle.nearest.specs.Nearest.{nearest, taken, corrected, neighbours}
use Rattle.normal.specs.declared.Step.{Step}
use Rattle.normal.specs.declared.Normal.{Normal}
use Rattle.normal.specs.Normal.{normal_of, none, added_part, added, added_with, added_all, step_to, normal_at}
use Rattle.mirror.specs.Mirror.{negated}
use Rattle.mirror.proofs.WholeLaws.{negation, ◌plus◌, ◌less◌, ◌by◌, ◌of◌}

-- A step and a normal where every height is negated.
abbrev step_negated : Step → Step
step_negated a = record { dx = a.dx; dy = a.dy; dz = neg_ℤ a.dz }

abbrev pub normal_negated : Normal → Normal
normal_negated n = record { nx = neg_ℤ n.nx; ny = neg_ℤ n.ny; nz = n.nz }

normal_of_negated : (a b : Step) → normal_of (step_negated a) (step_negated b) ≡ normal_negated (normal_of a b)
normal_of_negated a b = λ t.
    record {
      nx = (a.dy of negation b.dz less negation a.dz by b.dy).is t;
      ny = (negation a.dz by b.dx less a.dx of negation b.dz).is t;
      nz = a.dx *ℤ b.dy -ℤ a.dy *ℤ b.dx;
    }

part-negated : (sum n nz : ℤ) → added_part (neg_ℤ sum) (neg_ℤ n) nz ≡ neg_ℤ (added_part sum n nz)
part-negated sum n nz = go (lt_z nz (pos 0)) (lt_z (pos 0) nz)
  where
    go : (a b : Bool) → cond a (neg_ℤ sum +ℤ neg_ℤ (neg_ℤ n)) (cond b (neg_ℤ sum +ℤ neg_ℤ n) (neg_ℤ sum)) ≡ neg_ℤ (cond a (sum +ℤ neg_ℤ n) (cond b (sum +ℤ n) sum))
    go true b = (negation sum plus negation (neg_ℤ n)).is
    go false true = (negation sum plus negation n).is
    go false false = refl

added-negated : (sum n : Normal) → added (normal_negated sum) (normal_negated n) ≡ normal_negated (added sum n)
unfolding added
added-negated sum n = λ t.
    record { nx = part-negated sum.nx n.nx n.nz t; ny = part-negated sum.ny n.ny n.nz t; nz = added_part sum.nz n.nz n.nz }

with_negated : (sum : Normal) (a : Step) (l : List Step)
    → added_with (normal_negated sum) (step_negated a) (map step_negated l) ≡ normal_negated (added_with sum a l)
with_negated sum a [] = refl
with_negated sum a (b ∷ l) =
    ap (λ n. added_with n (step_negated a) (map step_negated l)) (ap (added (normal_negated sum)) (normal_of_negated a b) ∙ added-negated sum (normal_of a b))
    ∙ with_negated (added sum (normal_of a b)) a l

all_negated : (sum : Normal) (l : List Step) → added_all (normal_negated sum) (map step_negated l) ≡ normal_negated (added_all sum l)
all_negated sum [] = refl
all_negated sum (a ∷ l) = ap (λ n. added_all n (map step_negated l)) (with_negated sum a l) ∙ all_negated (added_with sum a l) l

module _ (s : Survey) where
  -- Neighbours are chosen by places alone.
  corrected_same : (i : ℕ) (l : List ℕ) → corrected (negated s) i l ≡ corrected s i l
  unfolding nearest
  corrected_same i [] = refl
  corrected_same i (a ∷ l) = refl

  neighbours_same : (i : ℕ) → neighbours (negated s) i ≡ neighbours s i
  unfolding neighbours nearest
  neighbours_same i = corrected_same i (taken s i)

  steps-negated : (h : ℕ → ℤ) (i : ℕ) (l : List ℕ) → map (step_to (negated s) (λ k. neg_ℤ (h k)) i) l ≡ map step_negated (map (step_to s h i) l)
  steps-negated h i [] = refl
  steps-negated h i (k ∷ l) = λ t.
      record { dx = across (place_of s i) (place_of s k); dy = climb (place_of s i) (place_of s k); dz = (negation (h k) less negation (h i)).is t }
      ∷ steps-negated h i l t

  -- Negating all heights negates NX and NY of every station and leaves NZ.
  pub normal-negated : (h : ℕ → ℤ) (i : ℕ) → normal_at (negated s) (λ k. neg_ℤ (h k)) i ≡ normal_negated (normal_at s h i)
  unfolding normal_at
  normal-negated h i =
      ap (λ l. added_all none (map (step_to (negated s) (λ k. neg_ℤ (h k)) i) l)) (neighbours_same i)
      ∙ ap (added_all none) (steps-negated h i (neighbours s i))
      ∙ all_negated none (map (step_to s h i) (neighbours s i))
