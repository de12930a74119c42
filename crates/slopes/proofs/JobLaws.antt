-- What the steps of the job leave is what the job is to leave. Assumes nothing.
--
-- The rows of neighbours and the tables of p and q are what the next step asks for. r, s and t are made of p and q of stations only, so
-- that the tables serve as well as the slopes themselves; and places are all that slopes take of the survey beside the heights.
use mathlib.Core.Path.{◌≡◌, refl, sym, ap, ◌∙◌, subst}
use mathlib.Core.List.{List, [], ◌∷◌, ◌++◌, map}
use Prim.Native.Nat.{ℕ, zero, suc, ◌+◌, ◌*◌, ◌≤◌, ◌<◌}
use native.Mathlib.Omega.{arith}
use borrow.Author.Tests.{le-ltb}
use lib.IntN.{ℤ, pos, neg_ℤ, nat_abs, ◌+ℤ◌, ◌*ℤ◌}
use lib.ListN.{length, get_or, length-append}
use Rattle.lists.specs.Table.{table}
use Rattle.lists.proofs.TableLaws.{table-length, table_at}
use Rattle.whole.specs.Range.{Within}
use Rattle.survey.specs.Fit.{Fit}
use Rattle.survey.specs.Rooms.{slope_room}
use Rattle.survey.specs.Survey.{Survey, survey, count}
use Rattle.std.specs.Prelude.{Ok}
use Rattle.survey.proofs.FitLaws.{fit_passed}
use Rattle.normal.specs.declared.Normal.{Normal}
use Rattle.nearest.specs.Places.{places, Placed, value_in, High}
use Rattle.nearest.specs.Nearest.{nearest, taken, corrected, neighbours}
use Rattle.nearest.specs.Four.{near_row, Kept}
use Rattle.normal.specs.Normal.{none, added_all, step_to, normal_at}
use Rattle.survey.specs.Limits.{most_slope}
use Rattle.slopes.specs.Slopes.{slope, slope_p, slope_q, slope_r, slope_s, slope_t, five_at, row, slopes_at}
use Rattle.lists.specs.Rows.{rows}
use Rattle.slopes.specs.Job.{answer, sloped, slopes_of}
use Rattle.normal.proofs.SumLaws.{sum-agree}
use Rattle.lists.proofs.RowsLaws.{rows-length, rows_at}

-- Rows that agree.
rows_agree : (f g : ℕ → List ℤ) (n : ℕ) → ((i : ℕ) → i < n → f i ≡ g i) → rows f n ≡ rows g n
rows_agree f g zero e = refl
rows_agree f g (suc n) e = λ t. rows_agree f g n (λ i h. e i (omega arith)) t ++ e n (omega arith) t

-- The rows of neighbours.
pub rows-kept : (xs ys : List ℕ) {near : List ℕ} (rest : List ℕ) → near ≡ rows (near_row (places xs ys)) (length xs) ++ rest → Kept xs ys near
rows-kept xs ys {near} rest e =
    record {
      enough =
          omega (arith, ap length e, length-append (rows (near_row (places xs ys)) (length xs)) rest, rows-length (near_row (places xs ys)) 4 (λ i. refl) (length xs));
      row = λ i j h l.
          ap (λ (m : List ℕ). get_or m (4 * i + j) 0) e ∙ rows_at (near_row (places xs ys)) 4 (λ i. refl) (length xs) i j rest 0 h l;
    }

-- A table of slopes.
table-value : (xs : List ℕ) (f : ℕ → ℤ) {hs : List ℤ} (rest : List ℤ) → hs ≡ table f (length xs) ++ rest → (k : ℕ) → k < length xs → value_in hs k ≡ f k
table-value xs f rest e k h = ap (λ (m : List ℤ). value_in m k) e ∙ table_at f (length xs) k rest (pos 0) h

pub table-high :
    (xs : List ℕ) (f : ℕ → ℤ) {hs : List ℤ} (rest : List ℤ) → hs ≡ table f (length xs) ++ rest → ((k : ℕ) → Within most_slope (f k))
    → High most_slope xs hs
table-high xs f rest e w =
    record {
      enough = omega (arith, ap length e, length-append (table f (length xs)) rest, table-length f (length xs));
      within = λ k h. subst (Within most_slope) (sym (table-value xs f rest e k h)) (w k);
    }

-- The five of a station, by p and q that agree at every station.
five-agree :
    {xs ys : List ℕ} → Placed xs ys → (p q u v : ℕ → ℤ) (i : ℕ) → i < length xs → ((k : ℕ) → k < length xs → p k ≡ u k) → ((k : ℕ) → k < length xs → q k ≡ v k)
    → five_at (places xs ys) p q i ≡ five_at (places xs ys) u v i
unfolding slope_r slope_s slope_t
five-agree {xs} {ys} g p q u v i h e f =
    let of-p = sum-agree g p i h u e in
    let of-q = sum-agree g q i h v f in
    λ t.
    record {
      p = e i h t;
      q = f i h t;
      r = slope (neg_ℤ (of-p t).nx) (nat_abs (of-p t).nz);
      s = slope (neg_ℤ ((of-p t).ny +ℤ (of-q t).nx)) (2 * nat_abs (of-p t).nz);
      t = slope (neg_ℤ (of-q t).ny) (nat_abs (of-q t).nz);
    }

-- The slopes take only the places of a survey, and the heights that they are given.
corrected-places : (xs ys : List ℕ) (zs : List ℤ) (i : ℕ) (l : List ℕ) → corrected (places xs ys) i l ≡ corrected (survey xs ys zs) i l
unfolding nearest
corrected-places xs ys zs i [] = refl
corrected-places xs ys zs i (a ∷ l) = refl

neighbours-places : (xs ys : List ℕ) (zs : List ℤ) (i : ℕ) → neighbours (places xs ys) i ≡ neighbours (survey xs ys zs) i
unfolding neighbours nearest
neighbours-places xs ys zs i = corrected-places xs ys zs i (taken (places xs ys) i)

sum-places : (xs ys : List ℕ) (zs : List ℤ) (h : ℕ → ℤ) (i : ℕ) → normal_at (places xs ys) h i ≡ normal_at (survey xs ys zs) h i
unfolding normal_at
sum-places xs ys zs h i = ap (λ (l : List ℕ). added_all none (map (step_to (places xs ys) h i) l)) (neighbours-places xs ys zs i)

-- The row of a station, by the sums of any heights.
abbrev row_by : ((ℕ → ℤ) → ℕ → Normal) → (ℕ → ℤ) → ℕ → List ℤ
row_by sum h i =
    let p : ℕ → ℤ = λ k. slope (neg_ℤ (pos 65536) *ℤ (sum h k).nx) (nat_abs (sum h k).nz) in
    let q : ℕ → ℤ = λ k. slope (neg_ℤ (pos 65536) *ℤ (sum h k).ny) (nat_abs (sum h k).nz) in
    row
    (record {
      p = p i;
      q = q i;
      r = slope (neg_ℤ (sum p i).nx) (nat_abs (sum p i).nz);
      s = slope (neg_ℤ ((sum p i).ny +ℤ (sum q i).nx)) (2 * nat_abs (sum p i).nz);
      t = slope (neg_ℤ (sum q i).ny) (nat_abs (sum q i).nz);
    })

row-by : (s : Survey) (h : ℕ → ℤ) (i : ℕ) → slopes_at s h i ≡ row_by (normal_at s) h i
unfolding slope_p slope_q slope_r slope_s slope_t
row-by s h i = refl

places_only : (xs ys : List ℕ) (zs : List ℤ) (h : ℕ → ℤ) (i : ℕ) → slopes_at (places xs ys) h i ≡ slopes_at (survey xs ys zs) h i
places_only xs ys zs h i =
    row-by (places xs ys) h i ∙ (λ t. row_by (λ (k : ℕ → ℤ) (j : ℕ). sum-places xs ys zs k j t) h i) ∙ sym (row-by (survey xs ys zs) h i)

-- So the rows of the tables are those of the survey.
pub rows_are :
    {xs ys : List ℕ} → Placed xs ys → (zs : List ℤ) {p q : List ℤ} (p-rest q-rest : List ℤ)
    → p ≡ table (slope_p (places xs ys) (value_in zs)) (length xs) ++ p-rest → q ≡ table (slope_q (places xs ys) (value_in zs)) (length xs) ++ q-rest
    → rows (λ i. row (five_at (places xs ys) (value_in p) (value_in q) i)) (length xs) ≡ slopes_of (survey xs ys zs)
rows_are {xs} {ys} g zs {p} {q} p-rest q-rest e f =
    let P = slope_p (places xs ys) (value_in zs) in
    let Q = slope_q (places xs ys) (value_in zs) in
    rows_agree (λ i. row (five_at (places xs ys) (value_in p) (value_in q) i)) (slopes_at (survey xs ys zs) (value_in zs)) (length xs)
    (λ i h.
    ap row (five-agree g (value_in p) (value_in q) P Q i h (table-value xs P p-rest e) (table-value xs Q q-rest f))
    ∙ places_only xs ys zs (value_in zs) i)

-- 'Every survey in range, with distinct places not all on one line, is accepted when .. the lent room is long enough'.
pub fit-done : (s : Survey) (room : ℕ) → Fit s → slope_room (count s) ≤ room → sloped s room ≡ Ok tt
fit-done s room f h = ap (answer s room) (fit_passed s f) ∙ simp (le-ltb room (slope_room (count s)) h)
