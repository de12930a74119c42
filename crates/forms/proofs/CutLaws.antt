-- The first line of a text. Assumes nothing.
--
-- No byte of a line that is read as a value is LF: that byte goes on with nothing. So a text that begins with the line of a value is cut behind it.
use mathlib.Core.Path.{◌≡◌, refl, sym, ap, ◌∙◌}
use mathlib.Core.Bool.{Bool, true, false, cond}
use mathlib.Core.List.{List, [], ◌∷◌, ◌++◌, append_assoc}
use Prim.Native.Nat.{ℕ}
use native.Mathlib.Omega.{arith}
use borrow.Author.Tests.{eqb-true}
use lib.Dec.{eqb}
use Rattle.shapes.specs.declared.line.Kind.{Kind}
use Rattle.shapes.specs.declared.line.Kind.TheVariants.{Natural, Whole, Tag, Choice}
use Rattle.shapes.specs.declared.line.Shape.{Shape}
use Rattle.shapes.specs.declared.line.Part.{Part}
use Rattle.shapes.specs.declared.line.Part.TheVariants.{Key, Begun, Hyphen, Plain, Minus, Word, Wrong}
use Rattle.std.specs.Prelude.{Ok}
use Rattle.shapes.specs.Line.{line_end, read, said, line_said}
use Rattle.shapes.specs.Bytes.{line_bytes, line_body, part_of}
use Rattle.shapes.specs.Ranges.{InRange, Sound}
use Rattle.shapes.proofs.SpellLaws.{refused_not, line_of}
use Rattle.forms.specs.Lines.{Split, whole, split, behind, first_line}

abbrev pub NoEnd : List ℕ → Type 0
NoEnd [] = Unit
NoEnd (b ∷ l) = (eqb b line_end ≡ false) × NoEnd l

read-end : (s : Shape) (p : Part) → read s p line_end ≡ Wrong
unfolding read
read-end s (Key k) = refl
read-end s Begun = refl
read-end s Hyphen = refl
read-end s (Plain v) = refl
read-end s (Minus v) = refl
read-end s (Word w) = refl
read-end s Wrong = refl

part-wrong : (s : Shape) (l : List ℕ) → part_of s Wrong l ≡ Wrong
unfolding part_of read
part-wrong s [] = refl
part-wrong s (b ∷ l) = part-wrong s l

said-wrong : (k : Kind) (t : Bool) (v : ℕ) → said k t Wrong ≡ Ok v → ⊥
unfolding said
said-wrong (Natural a b) t v e = refused_not e
said-wrong (Whole a b) t v e = refused_not e
said-wrong Tag t v e = refused_not e
said-wrong (Choice a b) t v e = refused_not e

no_end : (s : Shape) (l : List ℕ) (p : Part) → (part_of s p l ≡ Wrong → ⊥) → NoEnd l
unfolding part_of
no_end s [] p h = tt
no_end s (b ∷ l) p h = go (eqb b line_end) refl (no_end s l (read s p b) h)
  where
    go : (t : Bool) → eqb b line_end ≡ t → NoEnd l → (eqb b line_end ≡ false) × NoEnd l
    go false e n = (e, n)
    go true e n =
        absurd
        (h (ap (λ (q : Part). part_of s q l) (ap (read s p) (eqb-true b line_end e) ∙ read-end s p) ∙ part-wrong s l))

body_no_end : (s : Shape) (u l : List ℕ) (v : ℕ) → line_said s u (part_of s (Key 0) l) ≡ Ok v → NoEnd l
body_no_end s u l v e =
    no_end s l (Key 0) (λ w. said-wrong s.kind _ v (ap (λ (p : Part). line_said s u p) (sym w) ∙ e))

line-parts : (s : Shape) (v : ℕ) (r : List ℕ) → line_bytes s v ++ r ≡ line_body s v ++ (line_end ∷ r)
line-parts s v r = simp append_assoc

pub body-line : (s : Shape) (l : List ℕ) (v : ℕ) (r : List ℕ) → l ≡ line_body s v → l ++ (line_end ∷ r) ≡ line_bytes s v ++ r
body-line s l v r e = ap (λ (w : List ℕ). w ++ (line_end ∷ r)) e ∙ sym (line-parts s v r)

abbrev pub Whole_of : List ℕ → Split → Type 0
Whole_of t (whole r) = (t ≡ r) × NoEnd r
Whole_of t (split l r) = (t ≡ l ++ (line_end ∷ r)) × NoEnd l

behind-whole : (b : ℕ) (t : List ℕ) (w : Split) → eqb b line_end ≡ false → Whole_of t w → Whole_of (b ∷ t) (behind b w)
behind-whole b t (whole r) e h = (ap (λ (u : List ℕ). b ∷ u) h.0, (e, h.1))
behind-whole b t (split l r) e h = (ap (λ (u : List ℕ). b ∷ u) h.0, (e, h.1))

pub first_whole : (t : List ℕ) → Whole_of t (first_line t)
unfolding first_line
first_whole [] = (refl, tt)
first_whole (b ∷ t) = go (eqb b line_end) refl (first_whole t)
  where
    go : (e : Bool) → eqb b line_end ≡ e → Whole_of t (first_line t) → Whole_of (b ∷ t) (cond e (split [] t) (behind b (first_line t)))
    go true h i = (ap (λ (n : ℕ). n ∷ t) (eqb-true b line_end h), tt)
    go false h i = behind-whole b t (first_line t) h i

pub first_of : (l r : List ℕ) → NoEnd l → first_line (l ++ (line_end ∷ r)) ≡ split l r
unfolding first_line
first_of [] r h = refl
first_of (b ∷ l) r h = rw h.0 (ap (behind b) (first_of l r h.1))

pub first_none : (l : List ℕ) → NoEnd l → first_line l ≡ whole l
unfolding first_line
first_none [] h = refl
first_none (b ∷ l) h = rw h.0 (ap (behind b) (first_none l h.1))

-- A text that begins with the line of a value.
pub first-line : (s : Shape) (u : List ℕ) (v : ℕ) (r : List ℕ) → Sound s → InRange s.kind u v → first_line (line_bytes s v ++ r) ≡ split (line_body s v) r
first-line s u v r a h = ap first_line (line-parts s v r) ∙ first_of (line_body s v) r (body_no_end s u (line_body s v) v (line_of s u v a h))

-- How a text was cut, and its first line.
pub whole_not : {l r q : List ℕ} → whole q ≡ split l r → ⊥
whole_not e = let z : ◌≡◌ {A = ℕ} 0 1 = cc in omega arith

abbrev pub line-in : Split → List ℕ
line-in (whole r) = r
line-in (split l r) = l
