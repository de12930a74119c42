-- How long the text of a survey is: at most 37,742 bytes. Assumes nothing.
--
-- 9, 15 and 12 for the lines before the stations, 13, 7, 7 and 9 for each of 1,024 stations, 10 for the levels and 13 for each of 64.
use mathlib.Core.Path.{◌≡◌, refl, ap}
use mathlib.Core.Bool.{Bool, true, false, cond}
use mathlib.Core.List.{List, [], ◌∷◌, ◌++◌}
use Prim.Native.Nat.{ℕ, zero, suc, ◌+◌, ◌*◌, ◌-◌, ◌/◌, ◌%◌, ◌<◌, ◌≤◌}
use native.Mathlib.Omega.{arith}
use borrow.Author.Tests.{ltb-true, ltb-false}
use lib.Dec.{ltb}
use lib.ListN.{length, get_or, length-append}
use Rattle.lists.specs.Rows.{rows}
use Rattle.shapes.specs.declared.line.Kind.{Kind}
use Rattle.shapes.specs.declared.line.Kind.TheVariants.{Natural, Whole, Tag, Choice}
use Rattle.shapes.specs.Line.{hyphen, zero_at, is_used}
use Rattle.shapes.specs.Bytes.{digits_of, digits, chosen_of, value_bytes}
use Rattle.shapes.specs.Ranges.{InRange}
use Rattle.shapes.proofs.BytesLaws.{digits-length}
use Rattle.survey.specs.Limits.{most_coordinate}
use Rattle.formats.specs.Lines.{style_line, points_line, z_line, levels_line}
use Rattle.rendering.specs.Filed.{Filed, count, tag_number}
use Rattle.rendering.specs.Rendering.{rendered}
use Rattle.rendering.specs.Lines.{station_text, level_text}
use Rattle.rendering.specs.Form.{InForm}
use Rattle.rendering.proofs.FormLaws.{rising, level-within}
use Rattle.rendering.proofs.TagLaws.{form-spells}
use Rattle.formats.proofs.ToldLaws.{told-range}
use Rattle.rendering.proofs.LineLaws.{rendered-lines}

-- A larger number has no fewer digits.
digits-longer : (k n m : ℕ) → n ≤ m → length (digits_of 10 48 k n) ≤ length (digits_of 10 48 k m)
unfolding digits_of
digits-longer zero n m h = omega arith
digits-longer (suc k) n m h = go (ltb n 10) (ltb m 10) refl refl (digits-longer k (n / 10) (m / 10) (omega arith))
  where
    shown : Bool → ℕ → List ℕ
    shown t v = cond t ((48 + v) ∷ []) (digits_of 10 48 k (v / 10) ++ ((48 + v % 10) ∷ []))

    go : (t u : Bool) → ltb n 10 ≡ t → ltb m 10 ≡ u → length (digits_of 10 48 k (n / 10)) ≤ length (digits_of 10 48 k (m / 10))
        → length (shown t n) ≤ length (shown u m)
    go true true p q i = omega arith
    go true false p q i = simp length-append (omega arith)
    go false true p q i = absurd (omega (arith, ltb-false n 10 p, ltb-true m 10 q))
    go false false p q i = simp length-append (omega arith)

-- The most bytes of a value.
abbrev widest : Kind → ℕ
widest (Natural least most) = length (digits most)
widest (Whole least most) = suc (length (digits (zero_at + most)))
widest Tag = 8
widest (Choice a b) = 8

value-short : (k : Kind) (v : ℕ) → InRange k [] v → length (value_bytes k v) ≤ widest k
unfolding value_bytes
value-short (Natural least most) v h = digits-longer 19 v most h.1
value-short (Whole least most) v h = whole (ltb v zero_at)
  where
    whole : (t : Bool) → length (cond t (hyphen ∷ digits (zero_at - v)) (digits (v - zero_at))) ≤ suc (length (digits (zero_at + most)))
    whole true = omega (arith, digits-longer 19 (zero_at - v) (zero_at + most) (omega arith))
    whole false = omega (arith, digits-longer 19 (v - zero_at) (zero_at + most) (omega (arith, h.1)))
value-short Tag v h = digits-length 256 0 8 v
value-short (Choice a b) v h = digits-length 256 0 8 (chosen_of a b v)

rows_short : (row : ℕ → List ℕ) (w n : ℕ) → ((i : ℕ) → i < n → length (row i) ≤ w) → length (rows row n) ≤ w * n
rows_short row w zero h = omega arith
rows_short row w (suc n) h = simp length-append (omega (arith, rows_short row w n (λ i l. h i (omega arith)), h n (omega arith)))

module _ (s : Filed) (F : InForm s) where
  station-short : (i : ℕ) → i < count s → length (station_text s.tags s.xs s.ys s.zs i) ≤ 36
  unfolding station_text digits_of is_used
  station-short i h =
      simp length-append
      (omega (
        arith,
        value-short Tag (tag_number s.tags i) ((form-spells s.tags i (F.tag-form i h)).0, refl),
        value-short (Natural 0 most_coordinate) (get_or s.xs i 0) (omega arith, F.x-range i h),
        value-short (Natural 0 most_coordinate) (get_or s.ys i 0) (omega arith, F.y-range i h),
        value-short z_line.kind _ (told-range _ (F.z-range i h)),
      ))

  pub rendered-bytes : length (rendered s) ≤ 37742
  unfolding level_text digits_of
  rendered-bytes =
      let r = rising s.levels F.levels-form in
      omega (
        arith,
        simp length-append at (ap length (rendered-lines s)),
        value-short (Natural 1 1) 1 (omega arith, omega arith),
        value-short style_line.kind s.style F.style-range,
        value-short points_line.kind (count s) (F.least, F.most),
        rows_short (station_text s.tags s.xs s.ys s.zs) 36 (count s) station-short,
        F.most,
        value-short levels_line.kind (length s.levels) (r.some_level, r.most),
        rows_short (level_text s.levels) 13 (length s.levels)
            (λ k h. simp length-append (omega (arith, value-short z_line.kind _ (told-range _ (level-within s.levels r k h))))),
        r.most,
      )
