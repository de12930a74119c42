-- The bytes of a line: document 01, "Text". Assumes nothing.
use Rattle.std.specs.Prelude.{cond, List, [], ◌∷◌, ◌++◌, ℕ, zero, suc, ◌+◌, ◌-◌, ◌/◌, ◌%◌, eqb, ltb}
use Rattle.shapes.specs.declared.line.Kind.{Kind}
use Rattle.shapes.specs.declared.line.Kind.TheVariants.{Natural, Whole, Tag, Choice}
use Rattle.shapes.specs.declared.line.Shape.{Shape}
use Rattle.shapes.specs.declared.line.Part.{Part}
use Rattle.shapes.specs.Line.{line_end, equals, hyphen, zero_at, read}

-- The digits of n in a base, at most k; `from` is the byte of digit 0.
unfoldable pub digits_of : ℕ → ℕ → ℕ → ℕ → List ℕ
digits_of base from zero n = []
digits_of base from (suc k) n =
    cond (ltb n base) ((from + n) ∷ []) (digits_of base from k (n / base) ++ ((from + n % base) ∷ []))

-- The bytes of a word, at most eight, and 'plain decimal', at most nineteen digits.
abbrev pub word_bytes : ℕ → List ℕ
word_bytes w = digits_of 256 0 8 w

abbrev pub digits : ℕ → List ℕ
digits n = digits_of 10 48 19 n

abbrev pub whole_bytes : ℕ → List ℕ
whole_bytes v = cond (ltb v zero_at) (hyphen ∷ digits (zero_at - v)) (digits (v - zero_at))

abbrev pub chosen_of : ℕ → ℕ → ℕ → ℕ
chosen_of a b v = cond (eqb v 0) a b

unfoldable pub value_bytes : Kind → ℕ → List ℕ
value_bytes (Natural least most) v = digits v
value_bytes (Whole least most) v = whole_bytes v
value_bytes Tag v = word_bytes v
value_bytes (Choice a b) v = word_bytes (chosen_of a b v)

-- 'Lines of key=value end in LF': the line of a value with its LF, and without.
abbrev pub line_bytes : Shape → ℕ → List ℕ
line_bytes s v = word_bytes s.key ++ (equals ∷ (value_bytes s.kind v ++ (line_end ∷ [])))

abbrev pub line_body : Shape → ℕ → List ℕ
line_body s v = word_bytes s.key ++ (equals ∷ value_bytes s.kind v)

-- What reading the bytes l comes to, from the part p of a line on.
unfoldable pub part_of : Shape → Part → List ℕ → Part
part_of s p [] = p
part_of s p (b ∷ l) = part_of s (read s p b) l
