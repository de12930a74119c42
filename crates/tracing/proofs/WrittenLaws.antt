-- What is written and marked one after another. Assumes nothing.
use Prim.Native.Nat.{ℕ, zero, suc, ◌+◌, ◌≤◌}
use native.Mathlib.Numerals.{add-one}
use native.Mathlib.Omega.{arith}
use mathlib.Core.Path.{◌≡◌, refl, sym, ap, ap₂, ◌∙◌}
use mathlib.Core.List.{List, [], ◌∷◌, ◌++◌}
use mathlib.Core.Option.{Option}
use lib.ListN.{length, set, take, drop, length-set}
use lib.Seq.{take-suc-set, drop-set-lt}
use Rattle.tracing.specs.Tracing.{Halves, mark_by}
use Rattle.tracing.specs.Written.{side_by, sides_by, write_all, Left}

-- ---- lists written and marked
-- A list after another is written behind it.
pub write-append : (v : ℕ) (p q room : List ℕ) → write_all v (p ++ q) room ≡ write_all (v + length p) q (write_all v p room)
unfolding write_all
write-append v [] q room = let e : v ≡ v + 0 = omega arith in ap (λ k. write_all k q room) e
write-append v (x ∷ p) q room = let e : suc v + length p ≡ v + suc (length p) = omega arith in write-append (suc v) p q (set room v x) ∙ ap (λ k. write_all k q (write_all (suc v) p (set room v x))) e

-- What is written stands between what was before it and what was behind it.
pub write_is : (v : ℕ) (l room : List ℕ) → v + length l ≤ length room → write_all v l room ≡ take v room ++ (l ++ drop (v + length l) room)
unfolding write_all
write_is v [] room h = let e : v + 0 ≡ v = omega arith in rw e (split v room)
  where
    split : (k : ℕ) (m : List ℕ) → m ≡ take k m ++ drop k m
    split zero m = refl
    split (suc k) [] = refl
    split (suc k) (x ∷ m) = ap (λ t. x ∷ t) (split k m)
write_is v (x ∷ l) room h =
    let e : suc v + length l ≡ v + suc (length l) = omega arith in
    write_is (suc v) l (set room v x) (omega (arith, length-set room v x))
    ∙ ap (λ t. t ++ (l ++ drop (suc v + length l) (set room v x))) (take-suc-set room v x (omega arith))
    ∙ append_one (take v room) x (l ++ drop (suc v + length l) (set room v x))
    ∙ ap (λ t. take v room ++ (x ∷ (l ++ t))) (drop-set-lt (suc v + length l) room v x (omega arith) ∙ ap (λ k. drop k room) e)
  where
    append_one : (a : List ℕ) (y : ℕ) (b : List ℕ) → (a ++ (y ∷ [])) ++ b ≡ a ++ (y ∷ b)
    append_one [] y b = refl
    append_one (z ∷ a) y b = ap (λ t. z ∷ t) (append_one a y b)

pub write-front : (l room : List ℕ) → length l ≤ length room → write_all 0 l room ≡ l ++ drop (length l) room
write-front l room h = let e : 0 + length l ≡ length l = omega arith in write_is 0 l room (omega (arith, h)) ∙ ap (λ k. l ++ drop k room) e

pub write-length : (v : ℕ) (l room : List ℕ) → length (write_all v l room) ≡ length room
unfolding write_all
write-length v [] room = refl
write-length v (x ∷ l) room = write-length (suc v) l (set room v x) ∙ length-set room v x

pub mark-append : (across : ℕ → Option ℕ) (p q : List ℕ) (marks : List ℕ) → mark_by across (p ++ q) marks ≡ mark_by across q (mark_by across p marks)
unfolding mark_by
mark-append across [] q marks = refl
mark-append across (d ∷ p) q marks = mark-append across p q _

pub mark-length : (across : ℕ → Option ℕ) (p : List ℕ) (marks : List ℕ) → length (mark_by across p marks) ≡ length marks
unfolding mark_by
mark-length across [] marks = refl
mark-length across (d ∷ p) marks = mark-length across p _ ∙ length-set marks _ 1

-- ---- what is left of a line
module _ {mesh : Halves} {p : List ℕ} {marks sides : List ℕ} {k : ℕ} {marks' sides' : List ℕ} {k' : ℕ} where
  -- With one side of it marked and written, the others are left.
  pub left_on : (y : ℕ) (q : List ℕ) {marked written : List ℕ} → Left mesh p marks sides k marks' sides' k' → p ≡ y ∷ q
      → marked ≡ mark_by mesh.across (y ∷ []) marks → written ≡ set sides k (side_by mesh.corner y)
      → Left mesh q marked written (k + 1) marks' sides' k'
  unfolding mark_by write_all
  left_on y q l e m w =
      record {
        marked = l.marked ∙ ap (λ t. mark_by mesh.across t marks) e ∙ ap (mark_by mesh.across q) (sym m);
        written = l.written ∙ ap (λ t. write_all k (sides_by mesh.corner t) sides) e ∙ ap₂ (λ i t. write_all i (sides_by mesh.corner q) t) (sym (add-one k)) (sym w);
        place = let n = ap length e in omega (arith, l.place, n);
      }

  -- It has a place.
  pub left-room : (y : ℕ) (q : List ℕ) → Left mesh p marks sides k marks' sides' k' → p ≡ y ∷ q → k + 1 ≤ k'
  left-room y q l e = let n = ap length e in omega (arith, l.place, n)

-- With nothing left, all is marked and written.
pub left_none : {mesh : Halves} {p q : List ℕ} {marks sides : List ℕ} {k : ℕ} {marks₀ sides₀ : List ℕ} {v : ℕ} → p ≡ []
    → Left mesh p marks sides k (mark_by mesh.across q marks₀) (write_all v (sides_by mesh.corner q) sides₀) (v + length q) → Left mesh q marks₀ sides₀ v marks sides k
unfolding mark_by write_all
left_none {mesh} {p} {q} {marks} {sides} {k} e l =
    record {
      marked = sym (l.marked ∙ ap (λ t. mark_by mesh.across t marks) e);
      written = sym (l.written ∙ ap (λ t. write_all k (sides_by mesh.corner t) sides) e);
      place = let n = ap length e in omega (arith, l.place, n);
    }

-- The start first, then what follows it.
pub left-whole : {mesh : Halves} {y : ℕ} {q : List ℕ} {marks sides marked written marks' sides' : List ℕ} {v k' : ℕ}
    → marked ≡ mark_by mesh.across (y ∷ []) marks → written ≡ set sides v (side_by mesh.corner y) → Left mesh q marked written (v + 1) marks' sides' k'
    → Left mesh (y ∷ q) marks sides v marks' sides' k'
unfolding mark_by write_all
left-whole {mesh} {y} {q} {v = v} m w l =
    record {
      marked = l.marked ∙ ap (mark_by mesh.across q) m;
      written = l.written ∙ ap₂ (λ i t. write_all i (sides_by mesh.corner q) t) (add-one v) w;
      place = omega (arith, l.place);
    }
