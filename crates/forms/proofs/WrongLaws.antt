-- Which line is the first not as expected, for every form. Assumes nothing.
use mathlib.Core.Path.{◌≡◌, refl, sym, ap, subst, ◌∙◌}
use mathlib.Core.Bool.{Bool}
use mathlib.Core.Logic.{⊎_elim}
use mathlib.Core.List.{List, [], ◌∷◌, ◌++◌}
use Prim.Native.Nat.{ℕ, zero, suc, ◌+◌}
use native.Mathlib.Omega.{arith}
use Rattle.shapes.specs.declared.line.Shape.{Shape}
use Rattle.shapes.specs.declared.line.Part.TheVariants.{Key}
use Rattle.std.specs.Prelude.{Result, Ok, Err}
use Rattle.shapes.specs.declared.line.Fault.{Fault}
use Rattle.shapes.specs.Line.{line_said}
use Rattle.shapes.specs.Bytes.{line_bytes, line_body, part_of}
use Rattle.shapes.specs.Ranges.{InRange, Sound}
use Rattle.shapes.proofs.SpellLaws.{line_of}
use Rattle.forms.specs.Form.{Form, end, next, Read, right, fault, read_by}
use Rattle.forms.specs.Written.{SoundForm}
use Rattle.forms.specs.Lines.{Split, whole, split, first_line, cut_on, lines, Begins, Opens, NextRight, Reason}
use Rattle.forms.proofs.CutLaws.{Whole_of, first_whole, first_of, first_none, first-line, whole_not, line-in}
use Rattle.forms.proofs.FormLaws.{before, on_said, on_line, read_on, read-lines, Told, told}

fault_not : {n k : ℕ} {vs : List ℕ} → fault n k ≡ right vs → ⊥
fault_not e = let z : ◌≡◌ {A = ℕ} 0 1 = cc in omega arith

before-fault : (v : ℕ) (w : Read) (n k : ℕ) → before v w ≡ fault n k → w ≡ fault n k
before-fault v (right vs) n k e = absurd (fault_not (sym e))
before-fault v (fault i j) n k e = e

-- ---- what is behind it does not count

abbrev head_of : List (List ℕ) → List ℕ
head_of [] = []
head_of (l ∷ ls) = l

abbrev tail_of : List (List ℕ) → List (List ℕ)
tail_of [] = []
tail_of (l ∷ ls) = ls

-- A line shows how it was cut.
abbrev cut_of : Split → Split
cut_of (whole r) = whole r
cut_of (split l r) = split l []

cut-shown : (t : List ℕ) (w : Split) (go : List ℕ → List (List ℕ)) → Whole_of t w → first_line (head_of (cut_on w go)) ≡ cut_of w
cut-shown t (whole r) go h = first_none r h.1
cut-shown t (split l r) go h = first_of l [] h.1

lines_more : (k : ℕ) (t : List ℕ) → lines (suc k) t ≡ cut_on (first_line t) (λ r. lines k r)
unfolding lines
lines_more k t = refl

same_cut : (k : ℕ) (t u : List ℕ) → lines (suc k) u ≡ lines (suc k) t → cut_of (first_line u) ≡ cut_of (first_line t)
same_cut k t u e =
    sym (cut-shown u (first_line u) (λ r. lines k r) (first_whole u))
    ∙ ap (λ (ls : List (List ℕ)). first_line (head_of ls)) (sym (lines_more k u) ∙ e ∙ lines_more k t)
    ∙ cut-shown t (first_line t) (λ r. lines k r) (first_whole t)

same_rest : (k : ℕ) (t u : List ℕ) → lines (suc k) u ≡ lines (suc k) t
    → tail_of (cut_on (first_line u) (λ r. lines k r)) ≡ tail_of (cut_on (first_line t) (λ r. lines k r))
same_rest k t u e = ap tail_of (sym (lines_more k u) ∙ e ∙ lines_more k t)

-- The fault at line i + k is the same for each text with the same k + 1 lines.
module _ (m : Bool) (s : Shape) (u : List ℕ) (f : ℕ → Form) (i : ℕ) (a : SoundForm (next m s u f)) (n : ℕ)
    (rest : (v k : ℕ) (t x : List ℕ) → read_on (f v) (suc i) t ≡ fault n (suc i + k) → lines (suc k) x ≡ lines (suc k) t
    → read_on (f v) (suc i) x ≡ fault n (suc i + k)) where
  abbrev go : ℕ → List ℕ → Read
  go v q = read_on (f v) (suc i) q

  later : (v k : ℕ) (r q : List ℕ) → go v r ≡ fault n (i + k) → lines k q ≡ lines k r → go v q ≡ fault n (i + k)
  later v zero r q e h = let o = subst (Told (f v) (suc i) r) e (told (f v) (suc i) r (a.1 v)) in absurd (omega (arith, o.1))
  later v (suc k) r q e h =
      let z : i + suc k ≡ suc i + k = omega arith in
      rest v k r q (e ∙ ap (fault n) z) h ∙ ap (fault n) (sym z)

  same_said : (w : Result ℕ Fault) (k : ℕ) (r q : List ℕ) → on_said w i r go ≡ fault n (i + k) → lines k q ≡ lines k r → on_said w i q go ≡ fault n (i + k)
  same_said (Err x) k r q e h = e
  same_said (Ok v) k r q e h = ap (before v) (later v k r q (before-fault v (go v r) n (i + k) e) h)

  same_line : (w x : Split) (k : ℕ) → cut_of x ≡ cut_of w → tail_of (cut_on x (λ r. lines k r)) ≡ tail_of (cut_on w (λ r. lines k r))
      → on_line m s u w i go ≡ fault n (i + k) → on_line m s u x i go ≡ fault n (i + k)
  same_line (whole r) (whole q) k h j e = ap (λ (z : Split). on_line m s u z i go) h ∙ e
  same_line (whole r) (split l q) k h j e = absurd (whole_not (sym h))
  same_line (split l r) (whole q) k h j e = absurd (whole_not h)
  same_line (split l r) (split l' q) k h j e =
      ap (λ (z : List ℕ). on_said (line_said s u (part_of s (Key 0) z)) i q go) (ap line-in h)
      ∙ same_said (line_said s u (part_of s (Key 0) l)) k r q e j

same_fault : (f : Form) (i n k : ℕ) (t x : List ℕ) → SoundForm f → read_on f i t ≡ fault n (i + k) → lines (suc k) x ≡ lines (suc k) t
    → read_on f i x ≡ fault n (i + k)
unfolding read_on
same_fault end i n k [] x a e h = absurd (fault_not (sym e))
same_fault end i n k (b ∷ t) (c ∷ x) a e h = e
same_fault end i n k (b ∷ t) [] a e h = absurd (none (first_line (b ∷ t)) (first_whole (b ∷ t)) (sym (same_cut k (b ∷ t) [] h) ∙ ap cut_of (first_none [] tt)))
  where
    none : (w : Split) → Whole_of (b ∷ t) w → cut_of w ≡ whole [] → ⊥
    none (whole r) y z = let q : b ∷ t ≡ [] = y.0 ∙ ap line-in z in let z : ◌≡◌ {A = ℕ} 0 1 = cc in omega arith
    none (split l r) y z = whole_not (sym z)
same_fault (next m s u f) i n k t x a e h =
    same_line m s u f i a n (λ v j r q. same_fault (f v) (suc i) n j r q (a.1 v)) (first_line t) (first_line x) k (same_cut k t x h) (same_rest k t x h) e

-- ---- the statements

-- The first line not as expected: those before it are as expected, and no right text has the lines up to it. 8 is at a used tag.
pub first-wrong : (f : Form) (t : List ℕ) (n j : ℕ) → SoundForm f → read_by f t ≡ fault n j
    → (k : ℕ) × (j ≡ suc k) × Opens f k t (Reason n) × (Begins f (suc k) t → ⊥)
first-wrong f t n j a e =
    let g = sym (read-lines f t a) ∙ e in
    let o = subst (Told f 1 t) g (told f 1 t a) in (
      o.0,
      omega (arith, o.1),
      o.2,
      λ b. fault_not (sym (same_fault f 1 n o.0 t b.0 a (g ∙ ap (fault n) o.1) b.2) ∙ sym (read-lines f b.0 a) ∙ b.1.1),
    )

-- ---- no other line is

one_line : (s : Shape) (u : List ℕ) (v w : ℕ) (q r : List ℕ) → Sound s → InRange s.kind u v → InRange s.kind u w
    → line_bytes s v ++ q ≡ line_bytes s w ++ r → (v ≡ w) × (q ≡ r)
one_line s u v w q r a h i e =
    let x : split (line_body s v) q ≡ split (line_body s w) r = sym (first-line s u v q a h) ∙ ap first_line e ∙ first-line s u w r a i in
    let y : ◌≡◌ {A = Result ℕ Fault} (Ok v) (Ok w) =
    sym (line_of s u v a h) ∙ ap (λ (z : Split). line_said s u (part_of s (Key 0) (line-in z))) x ∙ line_of s u w a i in
    (cc, cc)

next-right : (f : Form) (k : ℕ) (t : List ℕ) (P : Form → List ℕ → Type 0) → Opens f (suc k) t P → NextRight f t
next-right end k t P o = absurd o
next-right (next m s u f) k t P o = (o.0, o.1, o.2, o.3, tt)

-- Of one text no two lines are the first not as expected, nor is one of them for two reasons.
pub wrong_once : (f : Form) (j k : ℕ) (t : List ℕ) (n i : ℕ) → SoundForm f → Opens f j t (Reason n) → Opens f k t (Reason i) → (j ≡ k) × (n ≡ i)
wrong_once f zero zero t n i a g h = (
  refl,
  ⊎_elim (λ x. ⊎_elim (λ y. x.0 ∙ sym y.0) (λ y. absurd (x.1 y.1)) h.1)
      (λ x. ⊎_elim (λ y. absurd (y.1 x.1)) (λ y. x.0 ∙ sym y.0) h.1) g.1,
)
wrong_once f zero (suc k) t n i a g h = absurd (g.0 (next-right f k t (Reason i) h))
wrong_once f (suc j) zero t n i a g h = absurd (h.0 (next-right f j t (Reason n) g))
wrong_once end (suc j) (suc k) t n i a g h = absurd g
wrong_once (next m s u f) (suc j) (suc k) t n i a g h =
    let e = one_line s u h.0 g.0 h.1 g.1 a.0 h.2 g.2 (sym h.3 ∙ g.3) in
    let o = subst (λ (v : ℕ). Opens (f v) k h.1 (Reason i)) e.0 h.4 in
    let r = wrong_once (f g.0) j k g.1 n i (a.1 g.0) g.4 (subst (λ (r : List ℕ). Opens (f g.0) k r (Reason i)) e.1 o) in
    (ap suc r.0, r.1)

-- So the line and its number are those of the refusal, and no others.
pub wrong-refused : (f : Form) (t : List ℕ) (n k : ℕ) → SoundForm f → Opens f k t (Reason n) → (Begins f (suc k) t → ⊥) → read_by f t ≡ fault n (suc k)
wrong-refused f t n k a o b = go (read_by f t) refl
  where
    go : (r : Read) → read_by f t ≡ r → r ≡ fault n (suc k)
    go (right vs) e = absurd (b (t, (vs, e), refl))
    go (fault i j) e = let w = first-wrong f t i j a e in let x = wrong_once f w.0 k t i n a w.2 o in cc (w.1, x.0, x.1)
