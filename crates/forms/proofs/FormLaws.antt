-- Reading and writing undo each other, for every form, and a refusal is at the first line not as expected. Assumes nothing.
--
-- `read_on` reads a text line by line, as `read_by` does byte by byte; from there each law is one step for a line and an induction over the form.
use mathlib.Core.Path.{◌≡◌, refl, sym, ap, subst, subst⁻¹, ◌∙◌}
use mathlib.Core.Bool.{Bool, true, false, cond, ◌&&◌, false≢true}
use mathlib.Core.Logic.{inl, inr, ⊎_elim}
use mathlib.Core.List.{List, [], ◌∷◌, ◌++◌, append_assoc, append-nil}
use Prim.Native.Nat.{ℕ, suc, ◌+◌}
use native.Mathlib.Omega.{arith}
use Rattle.shapes.specs.declared.line.Kind.{Kind}
use Rattle.shapes.specs.declared.line.Shape.{Shape}
use Rattle.shapes.specs.declared.line.Part.{Part}
use Rattle.shapes.specs.declared.line.Part.TheVariants.{Key, Begun, Hyphen, Plain, Minus, Word, Wrong}
use Rattle.std.specs.Prelude.{Result, Ok, Err}
use Rattle.shapes.specs.declared.line.Fault.{Fault}
use Rattle.shapes.specs.declared.line.Fault.TheVariants as refused
use Rattle.shapes.specs.Line.{line_end, read, fault_number, is_used, line_said}
use Rattle.shapes.specs.Bytes.{line_bytes, line_body, part_of}
use Rattle.shapes.specs.Ranges.{InRange, Sound}
use Rattle.shapes.proofs.SpellLaws.{Spelled, line-spelled, word_some, refused_not, line_of, line_back, line-used, refused-tag}
use Rattle.forms.specs.Form.{Form, end, next, State, at, failed, of_said, feed, Read, right, fault, is_new, ended, read_by}
use Rattle.forms.specs.Written.{written, SoundForm, Ranged}
use Rattle.forms.specs.Lines.{Split, whole, split, first_line, Opens, UsedTag, NextRight, Reason}
use Rattle.forms.proofs.PieceLaws.{feed_on}
use Rattle.forms.proofs.CutLaws.{NoEnd, Whole_of, first_whole, first_of, first_none, first-line, body-line, whole_not, line-in}

-- ---- line by line

abbrev pub before : ℕ → Read → Read
before v (right vs) = right (v ∷ vs)
before v (fault n k) = fault n k

abbrev pub is_none : List ℕ → Bool
is_none [] = true
is_none (b ∷ l) = false

abbrev pub on_said : Result ℕ Fault → ℕ → List ℕ → (ℕ → List ℕ → Read) → Read
on_said (Err why) k r go = fault (fault_number why) k
on_said (Ok v) k r go = before v (go v r)

abbrev pub on_line : Bool → Shape → List ℕ → Split → ℕ → (ℕ → List ℕ → Read) → Read
on_line m s u (whole r) k go = cond (m && is_none r) (right []) (fault 7 k)
on_line m s u (split l r) k go = on_said (line_said s u (part_of s (Key 0) l)) k r go

unfoldable pub read_on : Form → ℕ → List ℕ → Read
read_on end k [] = right []
read_on end k (b ∷ t) = fault 7 k
read_on (next m s u f) k t = on_line m s u (first_line t) k (λ v r. read_on (f v) (suc k) r)

abbrev pub all : List ℕ → Read → Read
all vs (right ws) = right (vs ++ ws)
all vs (fault n k) = fault n k

all_before : (vs : List ℕ) (v : ℕ) (r : Read) → all (vs ++ (v ∷ [])) r ≡ all vs (before v r)
all_before vs v (right ws) = ap right (append_assoc vs (v ∷ []) ws)
all_before vs v (fault n k) = refl

feed-failed : (n k : ℕ) (t : List ℕ) → ended (feed (failed n k) t) ≡ fault n k
unfolding feed
feed-failed n k [] = refl
feed-failed n k (b ∷ t) = feed-failed n k t

rest_read : (l : List ℕ) (m : Bool) (s : Shape) (u : List ℕ) (f : ℕ → Form) (k : ℕ) (p : Part) (ws : List ℕ) → NoEnd l
    → feed (at (next m s u f) k p ws) l ≡ at (next m s u f) k (part_of s p l) ws
unfolding feed part_of
rest_read [] m s u f k p ws h = refl
rest_read (b ∷ l) m s u f k p ws h =
    ap (λ (t : Bool). feed (cond t (of_said (line_said s u p) f k ws) (at (next m s u f) k (read s p b) ws)) l) h.0
    ∙ rest_read l m s u f k (read s p b) ws h.1

-- A byte that is read shows: the bytes of a part that is new are none.
new_none : (s : Shape) (p : Part) (l : List ℕ) → Spelled s p l → is_new p ≡ true → l ≡ []
new_none s (Key k) l h e = h.0 ∙ rw e
new_none s Begun l h e = absurd (false≢true e)
new_none s Hyphen l h e = absurd (false≢true e)
new_none s (Plain v) l h e = absurd (false≢true e)
new_none s (Minus v) l h e = absurd (false≢true e)
new_none s (Word w) l h e = absurd (false≢true e)
new_none s Wrong l h e = absurd (false≢true e)

part-new : (s : Shape) (l : List ℕ) → Sound s → is_new (part_of s (Key 0) l) ≡ is_none l
unfolding part_of
part-new s [] a = refl
part-new s (b ∷ l) a = go (is_new (part_of s (Key 0) (b ∷ l))) refl
  where
    go : (t : Bool) → is_new (part_of s (Key 0) (b ∷ l)) ≡ t → t ≡ false
    go false e = refl
    go true e =
        let n = new_none s (part_of s (Key 0) (b ∷ l)) (b ∷ l) (line-spelled s (word_some s.key a.0) (b ∷ l)) e in
        absurd (let z : ◌≡◌ {A = ℕ} 0 1 = cc in omega arith)

all_cond : (t : Bool) (ws : List ℕ) (k : ℕ) → cond t (right ws) (fault 7 k) ≡ all ws (cond t (right []) (fault 7 k))
all_cond true ws k = ap right (sym (append-nil ws))
all_cond false ws k = refl

module _ (m : Bool) (s : Shape) (u : List ℕ) (f : ℕ → Form) (k : ℕ) (ws : List ℕ) (a : Sound s)
    (rest : (v : ℕ) (r : List ℕ) → ended (feed (at (f v) (suc k) (Key 0) (ws ++ (v ∷ []))) r) ≡ all (ws ++ (v ∷ [])) (read_on (f v) (suc k) r)) where
  by_said : (w : Result ℕ Fault) (r : List ℕ) → ended (feed (of_said w f k ws) r) ≡ all ws (on_said w k r (λ v q. read_on (f v) (suc k) q))
  by_said (Err why) r = feed-failed (fault_number why) k r
  by_said (Ok v) r = rest v r ∙ all_before ws v (read_on (f v) (suc k) r)

  by_line : (t : List ℕ) (w : Split) → Whole_of t w
      → ended (feed (at (next m s u f) k (Key 0) ws) t) ≡ all ws (on_line m s u w k (λ v q. read_on (f v) (suc k) q))
  unfolding feed
  by_line t (whole r) h =
      ap (λ (x : List ℕ). ended (feed (at (next m s u f) k (Key 0) ws) x)) h.0
      ∙ ap ended (rest_read r m s u f k (Key 0) ws h.1)
      ∙ ap (λ (x : Bool). cond (m && x) (right ws) (fault 7 k)) (part-new s r a)
      ∙ all_cond (m && is_none r) ws k
  by_line t (split l r) h =
      ap (λ (x : List ℕ). ended (feed (at (next m s u f) k (Key 0) ws) x)) h.0
      ∙ ap ended (feed_on (at (next m s u f) k (Key 0) ws) l (line_end ∷ r))
      ∙ ap (λ (x : State). ended (feed x (line_end ∷ r))) (rest_read l m s u f k (Key 0) ws h.1)
      ∙ by_said (line_said s u (part_of s (Key 0) l)) r

by_lines : (f : Form) (k : ℕ) (ws t : List ℕ) → SoundForm f → ended (feed (at f k (Key 0) ws) t) ≡ all ws (read_on f k t)
unfolding read_on feed
by_lines end k ws [] a = ap right (sym (append-nil ws))
by_lines end k ws (b ∷ t) a = feed-failed 7 k t
by_lines (next m s u f) k ws t a =
    by_line m s u f k ws a.0 (λ v r. by_lines (f v) (suc k) (ws ++ (v ∷ [])) r (a.1 v)) t (first_line t) (first_whole t)

all_none : (r : Read) → all [] r ≡ r
all_none (right vs) = refl
all_none (fault n k) = refl

pub read-lines : (f : Form) (t : List ℕ) → SoundForm f → read_by f t ≡ read_on f 1 t
read-lines f t a = by_lines f 1 [] t a ∙ all_none (read_on f 1 t)

-- ---- values in their ranges have a text that is read as them

ranged_on : (f : Form) (k : ℕ) (vs : List ℕ) → SoundForm f → Ranged f vs → read_on f k (written f vs) ≡ right vs
unfolding read_on written first_line
ranged_on end k [] a h = refl
ranged_on end k (v ∷ vs) a h = absurd h
ranged_on (next m s u f) k [] a h = rw h
ranged_on (next m s u f) k (v ∷ vs) a h =
    ap (λ (w : Split). on_line m s u w k (λ v q. read_on (f v) (suc k) q)) (first-line s u v (written (f v) vs) a.0 h.0)
    ∙ ap (λ (w : Result ℕ Fault). on_said w k (written (f v) vs) (λ v q. read_on (f v) (suc k) q)) (line_of s u v a.0 h.0)
    ∙ ap (before v) (ranged_on (f v) (suc k) vs (a.1 v) h.1)

pub ranged-read : (f : Form) (vs : List ℕ) → SoundForm f → Ranged f vs → read_by f (written f vs) ≡ right vs
ranged-read f vs a h = read-lines f (written f vs) a ∙ ranged_on f 1 vs a h

-- ---- what is read tells of its text

-- A right text is that of its values, which are in their ranges. Of another, the lines before the fault's are as expected, and its own is not.
abbrev pub Told : Form → ℕ → List ℕ → Read → Type 0
Told f i t (right vs) = Ranged f vs × (written f vs ≡ t)
Told f i t (fault n j) = (k : ℕ) × (j ≡ i + k) × Opens f k t (Reason n)

none_used : (w : ℕ) → is_used [] w ≡ false
unfolding is_used
none_used w = refl

module _ (m : Bool) (s : Shape) (u : List ℕ) (f : ℕ → Form) (i : ℕ) (a : Sound s)
    (rest : (v : ℕ) (r : List ℕ) → Told (f v) (suc i) r (read_on (f v) (suc i) r)) where
  told_line : (l r : List ℕ) (v : ℕ) → line_said s u (part_of s (Key 0) l) ≡ Ok v → (w : Read) → Told (f v) (suc i) r w
      → Told (next m s u f) i (l ++ (line_end ∷ r)) (before v w)
  unfolding written
  told_line l r v e (right vs) h =
      let b = line_back s (word_some s.key a.0) u l v e in
      ((b.1, h.0), ap (λ (w : List ℕ). line_bytes s v ++ w) h.1 ∙ sym (body-line s l v r b.0))
  told_line l r v e (fault n j) h =
      let b = line_back s (word_some s.key a.0) u l v e in
      (suc h.0, omega (arith, h.1), (v, r, b.1, body-line s l v r b.0, h.2))

  -- A line as expected is the first of its text, and so is that of a used tag.
  right-line : (t : List ℕ) → (h : NextRight (next m s u f) t) → first_line t ≡ split (line_body s h.0) h.1
  right-line t h = ap first_line h.3 ∙ first-line s u h.0 h.1 a h.2

  tag-line : (t : List ℕ) → (h : UsedTag (next m s u f) t) → first_line t ≡ split (line_body s h.0) h.1
  tag-line t h =
      ap first_line h.5 ∙ first-line s [] h.0 h.1 a (subst⁻¹ (λ (k : Kind). InRange k [] h.0) h.2 (h.3, none_used h.0))

  -- A line that is refused is no line as expected, and one that is refused for its form none of a used tag.
  module _ (l r : List ℕ) (none : NoEnd l) (n : Fault) (e : line_said s u (part_of s (Key 0) l) ≡ Err n) where
    abbrev t : List ℕ
    t = l ++ (line_end ∷ r)

    same : (v : ℕ) (q : List ℕ) → first_line t ≡ split (line_body s v) q → line_said s u (part_of s (Key 0) (line_body s v)) ≡ Err n
    same v q h = ap (λ (w : Split). line_said s u (part_of s (Key 0) (line-in w))) (sym h ∙ first_of l r none) ∙ e

    not_right : NextRight (next m s u f) t → ⊥
    not_right h = refused_not (sym (same h.0 h.1 (right-line t h)) ∙ line_of s u h.0 a h.2)

    not_used : n ≡ refused.Form → UsedTag (next m s u f) t → ⊥
    not_used d h =
        let x = sym (same h.0 h.1 (tag-line t h)) ∙ line-used s u h.0 a h.2 h.3 h.4 in
        absurd (let z : ◌≡◌ {A = ℕ} 7 8 = cc in omega arith)

    refused-reason : Reason (fault_number n) (next m s u f) t
    refused-reason = (
      not_right,
      ⊎_elim (λ h. inl (ap fault_number h, not_used h)) (λ h. inr (ap fault_number h.0, (h.1, r, h.2, h.3, h.4, body-line s l h.1 r h.5)))
          (refused-tag s (word_some s.key a.0) u l n e),
    )

  told-said : (l r : List ℕ) → NoEnd l → (w : Result ℕ Fault) → line_said s u (part_of s (Key 0) l) ≡ w
      → Told (next m s u f) i (l ++ (line_end ∷ r)) (on_said w i r (λ v q. read_on (f v) (suc i) q))
  told-said l r o (Err n) e = (0, omega arith, refused-reason l r o n e)
  told-said l r o (Ok v) e = told_line l r v e (read_on (f v) (suc i) r) (rest v r)

  missing : (t : List ℕ) → NoEnd t → Told (next m s u f) i t (fault 7 i)
  missing t o =
      let w = first_none t o in (0, omega arith, (λ h. whole_not (sym w ∙ right-line t h), inl (refl, λ h. whole_not (sym w ∙ tag-line t h))))

  -- The text ends: where it may, and nothing is left of it, or with a line that is missing.
  told-end : (t : List ℕ) (x y : Bool) → NoEnd t → m ≡ x → is_none t ≡ y → Told (next m s u f) i t (cond (x && y) (right []) (fault 7 i))
  unfolding written
  told-end [] true true o e d = (e, refl)
  told-end (b ∷ t) true true o e d = absurd (let z : ◌≡◌ {A = ℕ} 0 1 = cc in omega arith)
  told-end t true false o e d = missing t o
  told-end t false y o e d = missing t o

  told_on : (t : List ℕ) (w : Split) → Whole_of t w → Told (next m s u f) i t (on_line m s u w i (λ v q. read_on (f v) (suc i) q))
  told_on t (whole r) h =
      subst⁻¹ (λ (x : List ℕ). Told (next m s u f) i x (on_line m s u (whole r) i (λ v q. read_on (f v) (suc i) q))) h.0 (told-end r m (is_none r) h.1 refl refl)
  told_on t (split l r) h =
      subst⁻¹ (λ (x : List ℕ). Told (next m s u f) i x (on_line m s u (split l r) i (λ v q. read_on (f v) (suc i) q))) h.0
      (told-said l r h.1 (line_said s u (part_of s (Key 0) l)) refl)

pub told : (f : Form) (i : ℕ) (t : List ℕ) → SoundForm f → Told f i t (read_on f i t)
unfolding read_on written
told end i [] a = (tt, refl)
told end i (b ∷ t) a = (0, omega arith, (λ h. h, inl (refl, λ h. h)))
told (next m s u f) i t a = told_on m s u f i a.0 (λ v r. told (f v) (suc i) r (a.1 v)) t (first_line t) (first_whole t)

pub read_back : (f : Form) (t vs : List ℕ) → SoundForm f → read_by f t ≡ right vs → Ranged f vs × (written f vs ≡ t)
read_back f t vs a e = subst (Told f 1 t) (sym (read-lines f t a) ∙ e) (told f 1 t a)

-- 'no second text reads to the same'
pub one_text : (f : Form) (t u vs : List ℕ) → SoundForm f → read_by f t ≡ right vs → read_by f u ≡ right vs → t ≡ u
one_text f t u vs a e h = sym (read_back f t vs a e).1 ∙ (read_back f u vs a h).1
