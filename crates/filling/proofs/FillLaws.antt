-- What filling a room leaves in it. Assumes nothing.
use mathlib.Core.Path.{◌≡◌, refl, sym, ◌∙◌}
use mathlib.Core.List.{List, ◌++◌, append_assoc}
use Prim.Native.Nat.{ℕ, zero, suc, ◌+◌, ◌*◌, ◌≤◌, ◌<◌}
use native.Mathlib.Omega.{arith}
use lib.ListN.{length, get_or, take, drop, replicate, length-replicate, take-append-drop}
use lib.Seq.{take-suc, sets-eq, drop-drop}
use Rattle.lists.specs.Rows.{rows}
use Rattle.lists.specs.Table.{table}
use Rattle.lists.proofs.RowsLaws.{rows_more}
use Rattle.pouring.specs.Poured.{poured}
use Rattle.pouring.proofs.PouredLaws.{poured-sets}
use Rattle.rendering.specs.Values.{tag_row}
use Rattle.rendering.proofs.TagLaws.{row-length}
use Rattle.filling.specs.Fill.{Apart}

-- The first n entries of a list, by their numbers,
front-table : {A : Type 0} (f : ℕ → A) (new : List A) (n : ℕ) → n ≤ length new → ((i : ℕ) → i < n → get_or new i (f 0) ≡ f i) → take n new ≡ table f n
front-table f new zero h e = refl
front-table f new (suc n) h e =
    take-suc new n (f 0) (omega arith) ∙ rw (front-table f new n (omega arith) (λ i l. e i (omega arith)), e n (omega arith))

-- and all of it, where the others are as they were.
pub filled : {A : Type 0} (f : ℕ → A) (old new : List A) (n : ℕ) → n ≤ length old → length new ≡ length old
    → ((i : ℕ) → i < n → get_or new i (f 0) ≡ f i) → drop n new ≡ drop n old → new ≡ table f n ++ drop n old
filled f old new n h l e r = sym (take-append-drop n new) ∙ rw (front-table f new n (omega arith) e, r)

-- Zeros, k of them from a place on.
pub cleared : (out : List ℕ) (next k : ℕ) → next + k ≤ length out → take next out ++ (replicate k 0 ++ drop k (drop next out)) ≡ poured out next (replicate k 0)
cleared out next k h =
    let e : length (replicate {A = ℕ} k 0) ≡ k = length-replicate k 0 in
    sym (rw (poured-sets, sets-eq (replicate k 0) out next (omega arith), e, ← drop-drop k next out) (append_assoc (take next out) (replicate k 0) (drop k (drop next out))))

-- One tag more.
pub tags-more : (f : ℕ → ℕ) (old : List ℕ) (i : ℕ) {room : List ℕ} → room ≡ rows (λ k. tag_row (f k)) i ++ drop (8 * i) old → 8 * i + 8 ≤ length old
    → poured room (8 * i) (tag_row (f i)) ≡ rows (λ k. tag_row (f k)) (i + 1) ++ drop (8 * (i + 1)) old
tags-more f old i e h = rw (e, poured-sets) (rows_more (λ k. tag_row (f k)) 8 (λ k. row-length (f k)) i old h)

-- Values that stand one behind the other.
pub apart_one : (values : List ℕ) (first n : ℕ) → Apart values first 1 n → (i : ℕ) → i < n → (first + i < length values) × (get_or values (first + i) 0 < 65536)
apart_one values first n h i l = let e : first + 1 * i ≡ first + i = omega arith in rw e at (h i l)
