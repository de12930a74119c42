-- What the reader answers, by the values of a right text. Assumes nothing.
use mathlib.Core.Path.{◌≡◌, refl, ap}
use mathlib.Core.Bool.{Bool, true, cond}
use mathlib.Core.List.{List}
use Prim.Native.Nat.{ℕ, ◌+◌, ◌*◌, ◌≤◌, ◌<◌}
use native.Mathlib.Omega.{arith}
use borrow.Author.Tests.{leb-true, lt-ltb, le-ltb}
use lib.Dec.{leb}
use lib.ListN.{length}
use Rattle.lists.specs.Table.{table}
use Rattle.lists.proofs.TestLaws.{by_test}
use Rattle.lists.proofs.TableLaws.{table-length}
use Rattle.shapes.proofs.LineLaws.{and_both}
use Rattle.forms.specs.Form.{read_by}
use Rattle.forms.specs.Written.{Ranged}
use Rattle.formats.specs.Surveys.{survey1}
use Rattle.survey.specs.Limits.{most_stations, most_levels, most_text}
use Rattle.survey.specs.Rooms.{tag_room}
use Rattle.survey.specs.declared.refusal.Refusal.TheVariants.{Room, Form}
use Rattle.std.specs.Prelude.{Ok, Err}
use Rattle.survey.specs.Answer.{Answer, read_done}
use Rattle.survey.specs.declared.answers.Read.{Read}
use Rattle.rendering.specs.Filed.{count}
use Rattle.rendering.specs.Scan.{Scanned, Right, Refused, scanned_by, scanned}
use Rattle.rendering.proofs.FormLaws.{rising}
use Rattle.rendering.proofs.TextLaws.{accepted-form}
use Rattle.rendering.proofs.ListLaws.{table-agree}
use Rattle.rendering.proofs.PartLaws.{ranged-valued}
use Rattle.rendering.specs.Values.{untold, value_at, points_in, levels_in, level_in, filed_by}
use Rattle.filling.specs.Fill.{every, Laid, Rooms}
use Rattle.text.specs.Reader.{has_room, housed, read_of}

-- The counts of a survey stand among its values.
pub housed_by : (vs : List ℕ) (xs ys zs tags levels : ℕ) {t : Bool} → has_room (points_in vs) (levels_in vs) xs ys zs tags levels ≡ t
    → cond t (read_done (value_at vs 1) (points_in vs) (levels_in vs)) (Err Room) ≡ housed xs ys zs tags levels (Right (filed_by vs))
unfolding filed_by
housed_by vs xs ys zs tags levels e = simp (table-length, e)

-- Rooms that suffice are each long enough.
pub rooms : {n m xs ys zs tags levels : ℕ} → has_room n m xs ys zs tags levels ≡ true → Rooms n m xs ys zs tags levels
rooms {n} {m} {xs} {ys} {zs} {tags} {levels} h =
    let a = and_both (leb n xs) _ h in
    let b = and_both (leb n ys) _ a.1 in
    let c = and_both (leb n zs) _ b.1 in
    let d = and_both (leb (tag_room n) tags) _ c.1 in
    record { x = leb-true _ _ a.0; y = leb-true _ _ b.0; z = leb-true _ _ c.0; tag = leb-true _ _ d.0; level = leb-true _ _ d.1 }

-- The values of a right text.
pub laid : (vs : List ℕ) → Ranged survey1 vs → Laid vs (points_in vs) (levels_in vs)
laid vs h =
    let v = ranged-valued vs h in
    let one : (k : ℕ) → 4 + 4 * points_in vs + 1 * k ≡ 4 + 4 * points_in vs + k = λ k. omega arith in
    record {
      long = v.long;
      most = v.most;
      style = v.style;
      x = v.x;
      y = v.y;
      z = λ i l. (omega (arith, v.long), v.z i l);
      level = λ k l. (omega (arith, v.long), rw one (v.level k l));
    }

pub levels-laid : (vs : List ℕ) → table (λ k. untold (every vs (4 + 4 * points_in vs) 1 k)) (levels_in vs) ≡ table (level_in vs) (levels_in vs)
levels-laid vs =
    let e : (k : ℕ) → 4 + 4 * points_in vs + 1 * k ≡ 4 + 4 * points_in vs + k = λ k. omega arith in
    table-agree _ _ (levels_in vs) (λ k h. ap (λ (i : ℕ). untold (value_at vs i)) (e k))

-- ---- what a text says, by what its form makes of it

pub scan-long : (t : List ℕ) → most_text < length t → scanned t ≡ Refused (Form 0)
unfolding scanned
scan-long t h = rw (lt-ltb most_text (length t) h)

pub scan-short : (t : List ℕ) → length t ≤ most_text → scanned t ≡ scanned_by (read_by survey1 t)
unfolding scanned
scan-short t h = rw (le-ltb most_text (length t) h)

-- The counts of a done reading are those of a survey in form.
abbrev stations_read : Answer Read → ℕ
stations_read (Ok d) = d.stations
stations_read (Err why) = 0

abbrev levels_read : Answer Read → ℕ
levels_read (Ok d) = d.levels
levels_read (Err why) = 0

pub read-counts :
    (t : List ℕ) (xs ys zs tags levels style n m : ℕ) → read_of t xs ys zs tags levels ≡ read_done style n m → (n ≤ most_stations) × (m ≤ most_levels)
read-counts t xs ys zs tags levels style n m h = go (scanned t) refl h
  where
    go : (w : Scanned) → scanned t ≡ w → housed xs ys zs tags levels w ≡ read_done style n m → (n ≤ most_stations) × (m ≤ most_levels)
    go (Refused why) e h = absurd (let z : ◌≡◌ {A = ℕ} 0 1 = cc in omega arith)
    go (Right s) e h =
        let F = (accepted-form t s e).0 in
        by_test (has_room (count s) (length s.levels) xs ys zs tags levels) (λ b.
        let i = rw b at h in
        let x : count s ≡ n = ap stations_read i in
        let y : length s.levels ≡ m = ap levels_read i in
        (omega (arith, x, F.most), omega (arith, y, (rising s.levels F.levels-form).most)))
        (λ b. absurd (let i = rw b at h in let z : ◌≡◌ {A = ℕ} 0 1 = cc in omega arith))
