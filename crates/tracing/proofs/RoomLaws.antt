-- Marks in a room: what is read through them, what `mark` does to the room without marks and to the marks, and how they are taken off
-- again. Assumes nothing.
use Prim.Native.Nat.{ℕ, ◌+◌, ◌*◌, ◌/◌, ◌-◌, ◌%◌, ◌≤◌, ◌<◌}
use native.Mathlib.Omega.{arith}
use native.Mathlib.Decide.{ℕ_discrete, dec_lt}
use borrow.Author.Tests.{lt-ltb, le-ltb, le-leb, lt-leb, eq-eqb, ne_eqb}
use mathlib.Core.Path.{◌≡◌, refl, sym, ap, ◌∙◌, subst}
use mathlib.Core.Bool.{Bool, true, false, cond, ◌&&◌}
use mathlib.Core.List.{List, ◌++◌}
use lib.Dec.{leb, ltb, eqb}
use lib.ListN.{length, get_or, set, take, drop, length-set, length-drop, get_or-append}
use lib.Seq.{ext_get_or, get_or-set_same, get_or-set_other, get_or-append-add, get_or-take, get_or-drop, length-take-le}
use borrow.Rule.Slice.PartMut.{put_mid, post_of, same_len_mid, drop_put}
use Rattle.lists.proofs.TableLaws.{table-length, table-entry}
use Rattle.tracing.specs.Room.{is_among, cleared_at, cleared, marks_in}

-- ---- reading
module _ (m k : ℕ) (room : List ℕ) where
  pub cleared-length : length (cleared m k room) ≡ length room
  unfolding cleared
  cleared-length = table-length (cleared_at m k room) (length room)

  cleared-entry : (i : ℕ) → i < length room → get_or (cleared m k room) i 0 ≡ cleared_at m k room i
  unfolding cleared
  cleared-entry i h = table-entry (cleared_at m k room) (length room) i 0 h

  -- Entries among the first k neighbours lose their mark, and no others do.
  among : (h : ℕ) → h < k → is_among m k (m + h) ≡ true
  among h l = rw (le-leb m (m + h) (omega arith), lt-ltb (m + h) (m + k) (omega arith))

  in_front : (i : ℕ) → i < m → is_among m k i ≡ false
  in_front i l = rw (lt-leb m i l)

  behind : (i : ℕ) → m + k ≤ i → is_among m k i ≡ false
  behind i l = rw (le-ltb i (m + k) l) (and-false (leb m i))
    where
      and-false : (t : Bool) → (t && false) ≡ false
      and-false true = refl
      and-false false = refl

  pub cleared-part : (h : ℕ) → h < k → m + h < length room → get_or (cleared m k room) (m + h) 0 ≡ get_or room (m + h) 0 % 32768
  cleared-part h l w = cleared-entry (m + h) w ∙ ap (λ t. cond t (get_or room (m + h) 0 % 32768) (get_or room (m + h) 0)) (among h l)

  pub cleared-front : (i : ℕ) → i < m → i < length room → get_or (cleared m k room) i 0 ≡ get_or room i 0
  cleared-front i l w = cleared-entry i w ∙ ap (λ t. cond t (get_or room i 0 % 32768) (get_or room i 0)) (in_front i l)

  pub cleared-behind : (i : ℕ) → m + k ≤ i → i < length room → get_or (cleared m k room) i 0 ≡ get_or room i 0
  cleared-behind i l w = cleared-entry i w ∙ ap (λ t. cond t (get_or room i 0 % 32768) (get_or room i 0)) (behind i l)

-- Rooms that are the same without marks are of one length.
pub cleared_same_length : (m : ℕ) (room marked : List ℕ) → cleared m m marked ≡ cleared m m room → length marked ≡ length room
cleared_same_length m room marked e = sym (cleared-length m m marked) ∙ ap length e ∙ cleared-length m m room

pub marks-length : (m : ℕ) (room : List ℕ) → length (marks_in m room) ≡ m
unfolding marks_in
marks-length m room = table-length (λ h. get_or room (m + h) 0 / 32768) m

pub marks-entry : (m : ℕ) (room : List ℕ) (h : ℕ) → h < m → get_or (marks_in m room) h 0 ≡ get_or room (m + h) 0 / 32768
unfolding marks_in
marks-entry m room h l = table-entry (λ h. get_or room (m + h) 0 / 32768) m h 0 l

-- A half-side is without a mark where its number is below 32768.
pub unmarked_is : (m : ℕ) (room : List ℕ) (h : ℕ) → h < m → ltb (get_or room (m + h) 0) 32768 ≡ eqb (get_or (marks_in m room) h 0) 0
unmarked_is m room h l = by (dec_lt (get_or room (m + h) 0) 32768)
  where
    e : get_or (marks_in m room) h 0 ≡ get_or room (m + h) 0 / 32768
    e = marks-entry m room h l

    by : Dec (get_or room (m + h) 0 < 32768) → ltb (get_or room (m + h) 0) 32768 ≡ eqb (get_or (marks_in m room) h 0) 0
    by (yes k) = lt-ltb _ _ k ∙ sym (eq-eqb (get_or (marks_in m room) h 0) 0 (omega (arith, e, k)))
    by (no k) = le-ltb (get_or room (m + h) 0) 32768 (omega arith) ∙ sym (ne_eqb (get_or (marks_in m room) h 0) 0 (λ q. omega (arith, e, k, q)))

-- ---- a mark put
module _ (m : ℕ) (room : List ℕ) (h : ℕ) (l : h < m) (w : m + h < length room) where
  abbrev put : List ℕ
  put = set room (m + h) (get_or room (m + h) 0 % 32768 + 32768)

  -- Without marks the room is as it was.
  pub mark-kept : cleared m m put ≡ cleared m m room
  mark-kept = ext_get_or 0 (cleared m m put) (cleared m m room) (cleared-length m m put ∙ long ∙ sym (cleared-length m m room)) same
    where
      long : length put ≡ length room
      long = length-set room (m + h) _

      here : get_or put (m + h) 0 ≡ get_or room (m + h) 0 % 32768 + 32768
      here = get_or-set_same room (m + h) _ 0 w

      same : (i : ℕ) → i < length (cleared m m put) → get_or (cleared m m put) i 0 ≡ get_or (cleared m m room) i 0
      same i k = by (ℕ_discrete i (m + h))
        where
          wi : i < length room
          wi = omega (arith, k, cleared-length m m put, long)

          by : Dec (i ≡ m + h) → get_or (cleared m m put) i 0 ≡ get_or (cleared m m room) i 0
          by (yes q) =
              rw q
              (let a = cleared-part m m put h l (omega (arith, w, long)) in
              let b = cleared-part m m room h l w in
              omega (arith, a, b, here))
          by (no q) =
              let e = get_or-set_other room (m + h) i (get_or room (m + h) 0 % 32768 + 32768) 0 q in
              cleared-entry m m put i (omega (arith, wi, long)) ∙ ap (λ x. cond (is_among m m i) (x % 32768) x) e ∙ sym (cleared-entry m m room i wi)

  -- The marks have one more.
  pub mark-put : marks_in m put ≡ set (marks_in m room) h 1
  mark-put =
      ext_get_or 0 (marks_in m put) (set (marks_in m room) h 1) (marks-length m put ∙ sym (length-set (marks_in m room) h 1 ∙ marks-length m room)) same
    where
      same : (i : ℕ) → i < length (marks_in m put) → get_or (marks_in m put) i 0 ≡ get_or (set (marks_in m room) h 1) i 0
      same i k = by (ℕ_discrete i h)
        where
          ki : i < m
          ki = omega (arith, k, marks-length m put)

          by : Dec (i ≡ h) → get_or (marks_in m put) i 0 ≡ get_or (set (marks_in m room) h 1) i 0
          by (yes q) =
              rw q
              (let a = marks-entry m put h l in
              let b = get_or-set_same (marks_in m room) h 1 0 (omega (arith, l, marks-length m room)) in
              let e = get_or-set_same room (m + h) (get_or room (m + h) 0 % 32768 + 32768) 0 w in
              omega (arith, a, b, e))
          by (no q) =
              let a = marks-entry m put i ki in
              let b = get_or-set_other (marks_in m room) h i 1 0 q in
              let e = get_or-set_other room (m + h) (m + i) (get_or room (m + h) 0 % 32768 + 32768) 0 (λ z. q (omega (arith, z))) in
              let d = marks-entry m room i ki in
              omega (arith, a, b, e, d)

-- ---- marks taken off
pub cleared-mid : (m : ℕ) (room mid : List ℕ) → 2 * m ≤ length room → length mid ≡ m
    → ((k : ℕ) → k < m → get_or mid k 0 ≡ get_or room (m + k) 0 % 32768) → put_mid m (2 * m - m) room mid ≡ cleared m m room
cleared-mid m room mid w n e =
    ext_get_or 0 whole (cleared m m room) (long ∙ sym (cleared-length m m room)) (λ i h. by i (omega (arith, h, long)) (dec_lt i m) (dec_lt i (m + m)))
  where
    whole : List ℕ
    whole = put_mid m (2 * m - m) room mid

    front : length (take m room) ≡ m
    front = length-take-le m room (omega arith)

    long : length whole ≡ length room
    long = same_len_mid m (2 * m - m) room mid (n ∙ sym (length-take-le (2 * m - m) (drop m room) (omega (arith, length-drop m room)) ∙ omega arith))

    by : (i : ℕ) → i < length room → Dec (i < m) → Dec (i < m + m) → get_or whole i 0 ≡ get_or (cleared m m room) i 0
    by i h (yes l) g =
        get_or-append (take m room) (mid ++ post_of m (2 * m - m) room) 0 i (omega (arith, front)) ∙ get_or-take m room i 0 l ∙ sym (cleared-front m m room i l h)
    by i h (no l) (yes g) =
        let split : i ≡ m + (i - m) = omega arith in
        rw split
        (ap (λ k. get_or whole (k + (i - m)) 0) (sym front)
        ∙ get_or-append-add (take m room) (mid ++ post_of m (2 * m - m) room) (i - m) 0
        ∙ get_or-append mid (post_of m (2 * m - m) room) 0 (i - m) (omega (arith, n))
        ∙ e (i - m) (omega arith)
        ∙ sym (cleared-part m m room (i - m) (omega arith) (omega (arith, split))))
    by i h (no l) (no g) =
        let split : i ≡ 2 * m + (i - 2 * m) = omega arith in
        ap (λ k. get_or whole k 0) split
        ∙ sym (get_or-drop (2 * m) whole (i - 2 * m) 0)
        ∙ ap (λ r. get_or r (i - 2 * m) 0) (drop_put m (2 * m) room mid (omega arith) w (n ∙ omega arith))
        ∙ get_or-drop (2 * m) room (i - 2 * m) 0
        ∙ ap (λ k. get_or room k 0) (sym split)
        ∙ sym (cleared-behind m m room i (omega arith) h)

-- A room whose neighbours are all below 32768 has no mark in it.
pub cleared_same : (m : ℕ) (room : List ℕ) → m + m ≤ length room → ((h : ℕ) → h < m → get_or room (m + h) 0 < 32768) → cleared m m room ≡ room
cleared_same m room w f = ext_get_or 0 (cleared m m room) room (cleared-length m m room) (λ i h. by i (omega (arith, h, cleared-length m m room)) (dec_lt i m) (dec_lt i (m + m)))
  where
    by : (i : ℕ) → i < length room → Dec (i < m) → Dec (i < m + m) → get_or (cleared m m room) i 0 ≡ get_or room i 0
    by i h (yes l) g = cleared-front m m room i l h
    by i h (no l) (no g) = cleared-behind m m room i (omega arith) h
    by i h (no l) (yes g) = subst (λ j. get_or (cleared m m room) j 0 ≡ get_or room j 0) split there
      where
        split : m + (i - m) ≡ i
        split = omega arith

        there : get_or (cleared m m room) (m + (i - m)) 0 ≡ get_or room (m + (i - m)) 0
        there =
            let a = cleared-part m m room (i - m) (omega arith) (omega (arith, split, h)) in
            let b = f (i - m) (omega arith) in
            omega (arith, a, b)
