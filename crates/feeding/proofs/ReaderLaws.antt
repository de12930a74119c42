-- What a step of the reader comes to, by the form's own steps. Assumes nothing.
use mathlib.Core.Path.{◌≡◌, refl, sym, ap, ◌∙◌}
use mathlib.Core.Bool.{true, false, false≢true, true≢false}
use mathlib.Core.List.{List, [], ◌∷◌}
use Prim.Native.Nat.{ℕ, suc, ◌+◌, ◌≤◌, ◌<◌}
use native.Mathlib.Omega.{arith}
use borrow.Author.Tests.{eqb-true}
use lib.Dec.{eqb}
use lib.ListN.{length, drop, drop_of_length-le, length-drop}
use lib.Seq.{drop-cons, drop-drop}
use Rattle.std.specs.Prelude.{Option, None, Some, is_some}
use Rattle.shapes.specs.declared.line.Part.{Part}
use Rattle.shapes.specs.declared.line.Shape.{Shape}
use Rattle.shapes.specs.Line.{line_end, line_in, read}
use Rattle.shapes.specs.Bytes.{part_of}
use Rattle.forms.specs.Form.{Form, end, line, State, at, failed, fed, feed}
use Rattle.lists.proofs.TestLaws.{by_test}
use Rattle.feeding.specs.Reader.{by_fault}

-- Behind the end of a piece nothing is fed; a fault stays; and what is behind the last line is a leftover.
pub feed_none : (s : State) (t : List ℕ) (i : ℕ) → length t ≤ i → feed s (drop i t) ≡ s
unfolding feed
feed_none s t i h = ap (feed s) (drop_of_length-le t h)

pub feed-failed : (n k : ℕ) (t : List ℕ) → feed (failed n k) t ≡ failed n k
unfolding feed
feed-failed n k [] = refl
feed-failed n k (b ∷ t) = feed-failed n k t

pub feed-fault : (o : Option ℕ) (s : State) (k : ℕ) (t u : List ℕ) → is_some o ≡ true → feed (by_fault o s k) t ≡ feed (by_fault o s k) u
feed-fault None s k t u h = absurd (false≢true h)
feed-fault (Some why) s k t u h = feed-failed why k t ∙ sym (feed-failed why k u)

pub no-fault : (o : Option ℕ) → is_some o ≡ false → o ≡ None
no-fault None h = refl
no-fault (Some why) h = absurd (true≢false h)

pub feed-end : (k : ℕ) (p : Part) (vs t : List ℕ) (from : ℕ) → from < length t → feed (at end k p vs) (drop from t) ≡ failed 7 k
unfolding feed
feed-end k p vs t from h = rw (drop-cons t from 0) (feed-failed 7 k (drop (suc from) t))

-- Behind the bytes of a line stands its LF, or the piece ends.
line-most : (t : List ℕ) → length (line_in t) ≤ length t
unfolding line_in
line-most [] = omega arith
line-most (b ∷ t) = by_test (eqb b line_end) (λ e. rw e (omega arith)) (λ e. rw e (omega (arith, line-most t)))

line-behind : (t : List ℕ) → length (line_in t) < length t → drop (length (line_in t)) t ≡ line_end ∷ drop (suc (length (line_in t))) t
unfolding line_in
line-behind [] h = absurd (omega arith)
line-behind (b ∷ t) h =
    by_test (eqb b line_end) (λ e. rw (e, eqb-true b line_end e)) (λ e. let i = rw e at h in rw e (line-behind t (omega arith)))

module _ (s : Shape) (u : List ℕ) (f : ℕ → Form) (k : ℕ) (vs : List ℕ) where
  -- The bytes up to an LF lead from part to part; then comes the LF, or nothing.
  feed-line : (t : List ℕ) (p : Part) → feed (at (line s u f) k p vs) t ≡ feed (at (line s u f) k (part_of s p (line_in t)) vs) (drop (length (line_in t)) t)
  unfolding feed line_in part_of
  feed-line [] p = refl
  feed-line (b ∷ t) p = by_test (eqb b line_end) (λ e. rw (e, e)) (λ e. rw e (feed-line t (read s p b)))

  module _ (t : List ℕ) (from : ℕ) (p : Part) where
    abbrev bytes : List ℕ
    bytes = line_in (drop from t)

    pub line_out : from < length t → length t ≤ from + length bytes
        → feed (at (line s u f) k (part_of s p bytes) vs) (drop (length t) t) ≡ feed (at (line s u f) k p vs) (drop from t)
    line_out small h =
        let m = line-most (drop from t) in
        let e : length t ≡ from + length bytes = omega (arith, length-drop from t) in
        rw (feed-line (drop from t) p, drop-drop, ← e)

    pub line-over : from + length bytes < length t
        → feed (fed (at (line s u f) k (part_of s p bytes) vs) line_end) (drop (from + length bytes + 1) t) ≡ feed (at (line s u f) k p vs) (drop from t)
    unfolding feed
    line-over h =
        let e : from + suc (length bytes) ≡ from + length bytes + 1 = omega arith in
        rw (feed-line (drop from t) p, line-behind (drop from t) (omega (arith, length-drop from t)), drop-drop (suc (length bytes)) from t, e)
