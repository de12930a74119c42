-- A survey in form and its values give each other, and its values are those of a right text. Assumes nothing.
--
-- The values of a survey are found again by their places (`station-at`, `levels_at`, `level-at`), and values in their ranges are
-- those of the survey that they are filed as.
use mathlib.Core.Path.{◌≡◌, refl, sym, ap, ◌∙◌}
use mathlib.Core.List.{List, [], ◌∷◌, ◌++◌, append-nil}
use Prim.Native.Nat.{ℕ, zero, suc, ◌+◌, ◌*◌, ◌<◌, ◌≤◌}
use native.Mathlib.Omega.{arith}
use borrow.Author.Tests.{lt-ltb}
use lib.IntN.{ℤ, pos}
use lib.ListN.{length, get_or, take, drop, length-append, length-drop, take-append-drop, drop_of_length-le}
use lib.Seq.{get_or_at, get_or-append-add, get_or-drop, drop-drop}
use lib.Signed.{◌<ℤ◌}
use Rattle.lists.specs.Rows.{rows}
use Rattle.lists.specs.Table.{table}
use Rattle.lists.proofs.TableLaws.{table-length, table-entry}
use Rattle.lists.proofs.RowsLaws.{rows-length, rows_at}
use Rattle.whole.specs.Range.{Within}
use Rattle.whole.proofs.Bridge.{int}
use Rattle.forms.specs.Written.{Ranged}
use Rattle.survey.specs.Limits.{most_height, most_tag}
use Rattle.formats.specs.Lines.{told, least_height}
use Rattle.formats.specs.Surveys.{above, level_lines, level_list, stations, plain, survey1}
use Rattle.rendering.specs.Filed.{Filed, filed, count, tag_number}
use Rattle.rendering.specs.Values.{station_values, level_value, values_of, untold, tag_row, value_at, points_in, levels_in, tag_in, x_in, y_in, z_in, level_in, filed_by}
use Rattle.rendering.specs.Writer.{level_before}
use Rattle.rendering.specs.Form.{InForm}
use Rattle.rendering.proofs.FormLaws.{Rising, rising, rising-list, level-within}
use Rattle.rendering.proofs.ListLaws.{table-agree, table_self, rows_agree, rows_take, rows_self}
use Rattle.rendering.proofs.TagLaws.{Spells, row-byte, row-length, row_is, form-spells, spells-form, spells-number, used_none, none_used}
use Rattle.formats.proofs.ToldLaws.{told_is, told-range}
use Rattle.rendering.proofs.ToldLaws.{untold_is, untold-within, untold-told, told-untold}
use Rattle.rendering.specs.Valued.{Station, level_at, floor_by, Level, Valued}
use Rattle.rendering.proofs.PartLaws.{drop_at, drop-station, ranged-valued}

same_filed :
    {style : ℕ} {tags xs ys tags' xs' ys' : List ℕ} {zs levels zs' levels' : List ℤ} → tags ≡ tags' → xs ≡ xs' → ys ≡ ys' → zs ≡ zs'
    → levels ≡ levels' → filed style tags xs ys zs levels ≡ filed style tags' xs' ys' zs' levels'
same_filed a b c d e = cc

above_is : (v : ℕ) → v ≤ told (pos most_height) → above v ≡ v + 1
above_is v h = rw (lt-ltb v 65536 (omega arith))

-- ---- the values of a survey in form

module _ (s : Filed) where
  abbrev n : ℕ
  n = count s

  abbrev m : ℕ
  m = length s.levels

  abbrev of_stations : List ℕ
  of_stations = rows (station_values s) n

  stations-length : length of_stations ≡ 4 * n
  stations-length = rows-length (station_values s) 4 (λ i. refl) n

  long : length (values_of s) ≡ 4 + 4 * n + m
  unfolding values_of
  long = simp length-append (omega (arith, stations-length, table-length (level_value s) m))

  station-at : (j i : ℕ) {k : ℕ} → i < n → j < 4 → k ≡ suc (suc (suc (4 * i + j))) → value_at (values_of s) k ≡ get_or (station_values s i) j 0
  unfolding values_of
  station-at j i h l e = rw e (rows_at (station_values s) 4 (λ r. refl) n i j (m ∷ table (level_value s) m) 0 h l)

  row_at : (i : ℕ) → i < n
      → (tag_in (values_of s) i ≡ tag_number s.tags i) × (x_in (values_of s) i ≡ get_or s.xs i 0) × (y_in (values_of s) i ≡ get_or s.ys i 0)
      × (value_at (values_of s) (6 + 4 * i) ≡ told (get_or s.zs i (pos 0)))
  row_at i h = (
    station-at 0 i h (omega arith) (omega arith),
    station-at 1 i h (omega arith) (omega arith),
    station-at 2 i h (omega arith) (omega arith),
    station-at 3 i h (omega arith) (omega arith),
  )

  row_drop : (i : ℕ) → i < n → drop (3 + 4 * i) (values_of s) ≡ station_values s i ++ drop (3 + 4 * suc i) (values_of s)
  row_drop i h = let a = row_at i h in rw (drop-station (values_of s) i (omega (arith, long)), a.0, a.1, a.2, a.3)

  levels_at : levels_in (values_of s) ≡ m
  unfolding values_of
  levels_at =
      let e : 3 + 4 * n ≡ suc (suc (suc (4 * n))) = omega arith in
      rw e (get_or_at of_stations m (table (level_value s) m) 0 (4 * n) stations-length)

  level-at : (k : ℕ) → k < m → level_at (values_of s) k ≡ level_value s k
  unfolding values_of
  level-at k h =
      let e : 4 + 4 * n + k ≡ suc (suc (suc (length of_stations + suc k))) = omega (arith, stations-length) in
      rw (e, get_or-append-add of_stations (m ∷ table (level_value s) m) (suc k) 0) (table-entry (level_value s) m k 0 h)

  module _ (F : InForm s) where
    abbrev levels-rise : Rising s.levels
    levels-rise = rising s.levels F.levels-form

    in_range : (k : ℕ) → k < m → Within most_height (get_or s.levels k (pos 0))
    in_range = level-within s.levels levels-rise

    level-fits : (k : ℕ) → k < m → Level (level_value s) k
    level-fits zero h = told-range _ (in_range 0 h)
    level-fits (suc k) h =
        let a = in_range k (omega arith) in
        let b = in_range (suc k) h in
        (omega (arith, int, above_is _ (told-range _ a).1, levels-rise.above (suc k) h, (told_is _ a).is, (told_is _ b).is), (told-range _ b).1)

    levels-ranged : (k i : ℕ) → i + k ≡ m → Ranged (level_lines k (floor_by (level_value s) i)) (drop (4 + 4 * n + i) (values_of s))
    unfolding level_lines values_of
    levels-ranged zero i e = rw (drop_of_length-le (values_of s) {i = 4 + 4 * n + i} (omega (arith, long))) tt
    levels-ranged (suc k) i e =
        rw (drop_at (values_of s) (4 + 4 * n + i) (4 + 4 * n + suc i) (omega arith) (omega (arith, long)), level-at i (omega arith))
        (level-fits i (omega arith), levels-ranged k (suc i) (omega arith))

    stations-ranged : (k i : ℕ) → i + k ≡ n → Ranged (stations plain level_list k (table (tag_number s.tags) i)) (drop (3 + 4 * i) (values_of s))
    unfolding stations values_of
    stations-ranged zero i e =
        let all : i ≡ n = omega arith in
        rw (all, drop_at (values_of s) (3 + 4 * n) (4 + 4 * n + 0) (omega arith) (omega (arith, long)), levels_at)
        ((levels-rise.some_level, levels-rise.most), levels-ranged m 0 (omega arith))
    stations-ranged (suc k) i e =
        let h : i < n = omega arith in
        let number = tag_number s.tags in
        let unused = used_none number i (number i) (λ j l. F.tags-apart j i l h) in
        rw (row_drop i h) (
          ((form-spells s.tags i (F.tag-form i h)).0, unused),
          ((omega arith, F.x-range i h), ((omega arith, F.y-range i h), (told-range _ (F.z-range i h), stations-ranged k (suc i) (omega arith)))),
        )

    pub values-ranged : Ranged survey1 (values_of s)
    unfolding values_of
    values-ranged = ((omega arith, omega arith), (F.style-range, ((F.least, F.most), stations-ranged n 0 (omega arith))))

    pub values_back : filed_by (values_of s) ≡ s
    unfolding filed_by values_of
    values_back =
        same_filed
        (rows_agree _ _ n (λ i h.
        ap tag_row (row_at i h).0
        ∙ row_is s.tags i (tag_number s.tags i) (form-spells s.tags i (F.tag-form i h)).1 (omega (arith, F.tags-count)))
        ∙ rows_self most_tag s.tags n F.tags-count)
        (table-agree _ _ n (λ i h. (row_at i h).1) ∙ table_self s.xs 0 n refl)
        (table-agree _ _ n (λ i h. (row_at i h).2) ∙ table_self s.ys 0 n F.ys-count)
        (table-agree _ _ n (λ i h. ap untold (row_at i h).3 ∙ untold-told _ (F.z-range i h)) ∙ table_self s.zs (pos 0) n F.zs-count)
        (rw levels_at (table-agree _ _ m (λ k h. ap untold (level-at k h) ∙ untold-told _ (in_range k h)))
        ∙ table_self s.levels (pos 0) m refl)

-- ---- the survey of values in their ranges

module _ (vs : List ℕ) (P : Valued vs) where
  abbrev s : Filed
  s = filed_by vs

  abbrev points : ℕ
  points = points_in vs

  counts : (count s ≡ points) × (length s.levels ≡ levels_in vs)
  unfolding filed_by
  counts = (table-length (x_in vs) points, table-length (level_in vs) (levels_in vs))

  inside : (i : ℕ) → i < count s → i < points
  inside i h = omega (arith, counts)

  in_levels : (k : ℕ) → k < length s.levels → k < levels_in vs
  in_levels k h = omega (arith, counts)

  level_is : (k : ℕ) → k < levels_in vs → get_or s.levels k (pos 0) ≡ level_in vs k
  unfolding filed_by
  level_is k h = table-entry (level_in vs) (levels_in vs) k (pos 0) h

  level-least : (k : ℕ) → k < levels_in vs → least_height ≤ level_at vs k
  level-least zero h = (P.rise 0 h).0
  level-least (suc k) h = omega (arith, (P.rise (suc k) h).0, above_is _ (P.rise k (omega arith)).1, level-least k (omega arith))

  spells : (i : ℕ) → i < points → Spells s.tags i (tag_in vs i)
  unfolding filed_by
  spells i h j l =
      ap (λ (t : List ℕ). get_or t (most_tag * i + j) 0) (sym (append-nil s.tags))
      ∙ rows_at (λ r. tag_row (tag_in vs r)) most_tag (λ r. row-length (tag_in vs r)) points i j [] 0 h l
      ∙ row-byte (tag_in vs i) j

  number_is : (i : ℕ) → i < points → tag_number s.tags i ≡ tag_in vs i
  number_is i h = spells-number s.tags i (tag_in vs i) (P.station i h).word (spells i h)

  rising-levels : Rising s.levels
  rising-levels =
      record {
        some_level = omega (arith, counts, P.some_level);
        most = omega (arith, counts, P.levels);
        above = λ k h. higher k (in_levels k h);
        below = λ k h. let l = in_levels k h in omega (arith, int, level_is k l, (untold_is (level_at vs k)).is, (P.rise k l).1);
      }
    where
      higher : (k : ℕ) → k < levels_in vs → level_before s.levels k <ℤ get_or s.levels k (pos 0)
      higher zero h = omega (arith, int, level_is 0 h, (untold_is (level_at vs 0)).is, level-least 0 h)
      higher (suc k) h =
          let a = level_is k (omega arith) in
          let b = level_is (suc k) h in
          let e = above_is _ (P.rise k (omega arith)).1 in
          omega (arith, int, a, b, e, (untold_is (level_at vs k)).is, (untold_is (level_at vs (suc k))).is, (P.rise (suc k) h).0)

  valued-form : InForm s
  unfolding filed_by
  valued-form =
      let at : (i : ℕ) → i < count s → Station vs i = λ i h. P.station i (inside i h) in
      record {
        ys-count = table-length (y_in vs) points ∙ sym counts.0;
        zs-count = table-length (z_in vs) points ∙ sym counts.0;
        tags-count = rw counts.0 (rows-length (λ i. tag_row (tag_in vs i)) most_tag (λ i. row-length (tag_in vs i)) points);
        least = omega (arith, counts, P.least);
        most = omega (arith, counts, P.most);
        x-range = λ i h. omega (arith, table-entry (x_in vs) points i 0 (inside i h), (at i h).x);
        y-range = λ i h. omega (arith, table-entry (y_in vs) points i 0 (inside i h), (at i h).y);
        z-range = λ i h. rw (table-entry (z_in vs) points i (pos 0) (inside i h)) (untold-within _ (at i h).z.0 (at i h).z.1);
        tag-form = λ i h. spells-form s.tags i (tag_in vs i) (at i h).word (spells i (inside i h));
        tags-apart = λ i j l h e.
            none_used (tag_in vs) j (tag_in vs j) (at j h).free i l (sym (number_is i (omega (arith, counts))) ∙ e ∙ number_is j (inside j h));
        style-range = P.style;
        levels-form = rising-list s.levels rising-levels;
      }

  -- Four values a station, and the levels behind them, are all that there are.
  abbrev row : ℕ → List ℕ
  row i = tag_in vs i ∷ x_in vs i ∷ y_in vs i ∷ value_at vs (6 + 4 * i) ∷ []

  row_here : (i : ℕ) → i < points → row i ≡ take 4 (drop (4 * i) (drop 3 vs))
  row_here i h = rw (drop-drop, drop-station vs i (omega (arith, P.long)))

  all_values : rows row points ++ (levels_in vs ∷ table (level_at vs) (levels_in vs)) ≡ drop 3 vs
  all_values =
      let e : 4 + 4 * points ≡ suc (3 + 4 * points) = omega arith in
      rw (
        rows_agree row _ points row_here,
        rows_take 4 (drop 3 vs) points,
        table-agree (level_at vs) (λ k. get_or (drop (4 + 4 * points) vs) k 0) (levels_in vs) (λ k h. sym (get_or-drop (4 + 4 * points) vs k 0)),
        table_self (drop (4 + 4 * points) vs) 0 (levels_in vs) (length-drop (4 + 4 * points) vs ∙ omega (arith, P.long)),
        ← drop_at vs (3 + 4 * points) (4 + 4 * points) e (omega (arith, P.long)),
        ← drop-drop (4 * points) 3 vs,
        take-append-drop,
      )

  same_row : (i : ℕ) → i < points → station_values s i ≡ row i
  unfolding filed_by
  same_row i h =
      let z = (P.station i h).z in
      let heights = ap told (table-entry (z_in vs) points i (pos 0) h) ∙ told-untold _ z.0 z.1 in
      rw (number_is i h, table-entry (x_in vs) points i 0 h, table-entry (y_in vs) points i 0 h, heights)

  same_level : (k : ℕ) → k < levels_in vs → level_value s k ≡ level_at vs k
  same_level k h = ap told (level_is k h) ∙ told-untold _ (level-least k h) (P.rise k h).1

  values_by : values_of s ≡ vs
  unfolding values_of filed_by
  values_by =
      let a = drop_at vs 0 1 (omega arith) (omega (arith, P.long)) in
      let b = drop_at vs 1 2 (omega arith) (omega (arith, P.long)) in
      let c = drop_at vs 2 3 (omega arith) (omega (arith, P.long)) in
      let rest = rows_agree (station_values s) row points same_row in
      rw (counts.0, counts.1, rest, table-agree (level_value s) (level_at vs) (levels_in vs) same_level, all_values) (cc P.edition)

pub ranged-form : (vs : List ℕ) → Ranged survey1 vs → InForm (filed_by vs) × (values_of (filed_by vs) ≡ vs)
ranged-form vs h = let P = ranged-valued vs h in (valued-form vs P, values_by vs P)
