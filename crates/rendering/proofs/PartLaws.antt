-- The values of survey text by their places: those of a right text are each in its range. Assumes nothing.
--
-- It goes line by line, a station or a level at a time; behind the last level there is nothing.
use mathlib.Core.Path.{◌≡◌}
use mathlib.Core.Bool.{false≢true}
use mathlib.Core.List.{List, [], ◌∷◌}
use Prim.Native.Nat.{ℕ, zero, suc, ◌+◌, ◌*◌, ◌-◌, ◌<◌, ◌≤◌}
use native.Mathlib.Omega.{arith}
use native.Mathlib.Decide.{dec_lt}
use lib.ListN.{length, drop, length-drop, drop_of_length-le}
use lib.Seq.{drop-cons}
use Rattle.lists.specs.Table.{table}
use Rattle.shapes.specs.declared.line.Shape.{Shape}
use Rattle.shapes.specs.Ranges.{InRange}
use Rattle.forms.specs.Form.{Form, end, line}
use Rattle.forms.specs.Written.{Ranged}
use Rattle.formats.specs.Surveys.{level_lines, level_list, stations, plain, survey1}
use Rattle.rendering.specs.Values.{value_at, points_in, levels_in, tag_in, x_in, y_in}
use Rattle.rendering.specs.Valued.{Station, floor_by, Level, level_at, Valued}

-- The values from place m on are those of a text of this form.
record From (vs : List ℕ) (f : Form) (m : ℕ) : Type 0 where
  ranged : Ranged f (drop m vs)

-- What goes on one by one from 0 to n, with Q at each.
module _ (T : ℕ → ℕ → Type 0) (Q : ℕ → Type 0) (n : ℕ) (go_on : (i k : ℕ) → T i (suc k) → Q i × T (suc i) k) (first : T 0 n) where
  come : (i k : ℕ) → i + k ≡ n → T i k
  come zero k e = let all : k ≡ n = omega arith in rw all first
  come (suc i) k e = (go_on i k (come i (suc k) (omega arith))).1

  each : (i : ℕ) → i < n → Q i
  each i h = (go_on i (n - suc i) (come i (suc (n - suc i)) (omega arith))).0

module _ (vs : List ℕ) where
  abbrev n : ℕ
  n = points_in vs

  pub drop_at : (k p : ℕ) → p ≡ suc k → k < length vs → drop k vs ≡ value_at vs k ∷ drop p vs
  drop_at k p e h = rw e (drop-cons vs k 0 h)

  pub drop-station : (i : ℕ) → 7 + 4 * i ≤ length vs
      → drop (3 + 4 * i) vs ≡ tag_in vs i ∷ x_in vs i ∷ y_in vs i ∷ value_at vs (6 + 4 * i) ∷ drop (3 + 4 * suc i) vs
  drop-station i h =
      rw (
        drop_at (3 + 4 * i) (4 + 4 * i) (omega arith) (omega arith),
        drop_at (4 + 4 * i) (5 + 4 * i) (omega arith) (omega arith),
        drop_at (5 + 4 * i) (6 + 4 * i) (omega arith) (omega arith),
        drop_at (6 + 4 * i) (3 + 4 * suc i) (omega arith) (omega arith),
      )

  -- The value at place k is in its range, and those from place p on are of what follows.
  on : {s : Shape} {u : List ℕ} {f : ℕ → Form} {k : ℕ} (p : ℕ) → p ≡ suc k → From vs (line s u f) k
      → (k < length vs) × InRange s.kind u (value_at vs k) × From vs (f (value_at vs k)) p
  on {s} {u} {f} {k} p e h = go (dec_lt k (length vs))
    where
      go : Dec (k < length vs) → (k < length vs) × InRange s.kind u (value_at vs k) × From vs (f (value_at vs k)) p
      go (yes l) = let r = rw (drop_at k p e l) at h.ranged in (l, r.0, record { ranged = r.1 })
      go (no l) = absurd (false≢true (rw (drop_of_length-le vs {i = k} (omega arith)) at h.ranged))

  nothing : (k : ℕ) → From vs end k → length vs ≤ k
  nothing k h = by (drop k vs) h.ranged (length-drop k vs)
    where
      by : (l : List ℕ) → Ranged end l → length l ≡ length vs - k → length vs ≤ k
      by [] r e = omega arith
      by (v ∷ l) r e = absurd r

  abbrev FromStation : ℕ → ℕ → Type 0
  FromStation i k = From vs (stations plain level_list k (table (tag_in vs) i)) (3 + 4 * i)

  one_station : (i k : ℕ) → FromStation i (suc k) → Station vs i × FromStation (suc i) k
  unfolding stations
  one_station i k h =
      let t = on (4 + 4 * i) (omega arith) h in
      let x = on (5 + 4 * i) (omega arith) t.2 in
      let y = on (6 + 4 * i) (omega arith) x.2 in
      let z = on (3 + 4 * suc i) (omega arith) y.2 in
      (record { word = t.1.0; free = t.1.1; x = x.1.1; y = y.1.1; z = z.1 }, z.2)

  abbrev FromLevel : ℕ → ℕ → Type 0
  FromLevel i k = From vs (level_lines k (floor_by (level_at vs) i)) (4 + 4 * n + i)

  one_level : (i k : ℕ) → FromLevel i (suc k) → ((4 + 4 * n + i < length vs) × Level (level_at vs) i) × FromLevel (suc i) k
  unfolding level_lines
  one_level i k h = let l = on (4 + 4 * n + suc i) (omega arith) h in ((l.0, l.1), l.2)

  pub ranged-valued : Ranged survey1 vs → Valued vs
  unfolding level_lines stations
  ranged-valued h =
      let first : From vs survey1 0 = record { ranged = h } in
      let e = on 1 (omega arith) first in
      let s = on 2 (omega arith) e.2 in
      let p = on 3 (omega arith) s.2 in
      let l = on (4 + 4 * n + 0) (omega arith) (come FromStation (Station vs) n one_station p.2 n 0 (omega arith)) in
      let station = each FromStation (Station vs) n one_station p.2 in
      let level = each FromLevel _ (levels_in vs) one_level l.2 in
      let last = come FromLevel _ (levels_in vs) one_level l.2 (levels_in vs) 0 (omega arith) in
      record {
        long = omega (arith, l.1, (level (levels_in vs - 1) (omega (arith, l.1))).0, nothing (4 + 4 * n + levels_in vs) last);
        edition = omega (arith, e.1);
        style = s.1;
        least = p.1.0;
        most = p.1.1;
        station = station;
        some_level = l.1.0;
        levels = l.1.1;
        rise = λ k h. (level k h).1;
        x = λ i h. omega (arith, (station i h).x);
        y = λ i h. omega (arith, (station i h).y);
        z = λ i h. omega (arith, (station i h).z);
        level = λ k h. omega (arith, (level k h).1);
      }
