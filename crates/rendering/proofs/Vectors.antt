-- The worked example of document 01, "Text", and its edge cases, by computation. Assumes nothing.
use mathlib.Core.Path.{◌≡◌, refl}
use mathlib.Core.List.{List, [], ◌∷◌, ◌++◌, map}
use Prim.Native.Nat.{ℕ}
use Prim.Native.String.{String}
use lib.IntN.{pos}
use lib.ListN.{take, drop, replicate}
use Rattle.survey.specs.declared.refusal.Refusal.{Refusal}
use Rattle.survey.specs.declared.refusal.Refusal.TheVariants.{Form, TagUsed}
use Rattle.std.specs.Prelude.{Ok}
use Rattle.shapes.specs.Line.{read, said, is_used}
use Rattle.shapes.specs.Bytes.{digits_of, value_bytes}
use Rattle.forms.specs.Form.{feed}
use Rattle.forms.specs.Written.{written}
use Rattle.formats.specs.Surveys.{stations, level_lines}
use Rattle.formats.proofs.Examples.{bytes}
use Rattle.rendering.specs.Filed.{Filed, filed}
use Rattle.rendering.specs.Values.{values_of, filed_by}
use Rattle.rendering.specs.Rendering.{rendered}
use Rattle.rendering.specs.Scan.{Right, Refused, scanned}
use Rattle.rendering.specs.Writer.{write_of}

-- The survey of three stations: A7 and a7 are two tags.
abbrev three : Filed
three =
    filed 0 (bytes "A7\0\0\0\0\0\0a7\0\0\0\0\0\0B1\0\0\0\0\0\0")
    (0 ∷ 8 ∷ 0 ∷ []) (0 ∷ 0 ∷ 8 ∷ []) (pos 0 ∷ pos 10 ∷ pos 10 ∷ []) (pos 5 ∷ [])

abbrev text : List ℕ
text =
    bytes "survey=1\nstyle=straight\npoints=3\ntag=A7\nx=0\ny=0\nz=0\ntag=a7\nx=8\ny=0\nz=10\ntag=B1\nx=0\ny=8\nz=10\nlevels=1\nlevel=5\n"

example : (rendered three ≡ text) × (write_of three 109 ≡ Ok 109) × (scanned text ≡ Right three)
unfolding write_of rendered written values_of value_bytes digits_of scanned feed read said is_used stations level_lines filed_by
example = (refl, refl, refl)

-- The text with other bytes for those from a up to b, and the one with A7 for a7, twice in all.
abbrev changed : ℕ → ℕ → String → List ℕ → List ℕ
changed a b w t = take a t ++ (bytes w ++ drop b t)

abbrev twice : List ℕ
twice = changed 56 57 "A" text

-- A missing text, a carriage return, 1,025 points; -0, a leading zero, a plus and 300 digits; a missing line, a missing last LF and two
-- leftovers; a used tag, alone, before a wrong z and behind one.
abbrev wrong : List (List ℕ × Refusal)
wrong =
    (bytes "", Form 1) ∷ (changed 8 8 "\r" text, Form 1) ∷ (changed 31 32 "1025" text, Form 3)
    ∷ (changed 50 51 "-0" text, Form 7) ∷ (changed 61 62 "08" text, Form 9) ∷ (changed 61 62 "+8" text, Form 9)
    ∷ (take 61 text ++ (replicate 300 49 ++ drop 62 text), Form 9)
    ∷ (take 101 text, Form 17) ∷ (take 108 text, Form 17) ∷ (text ++ bytes "\n", Form 18) ∷ (text ++ bytes "x", Form 18)
    ∷ (twice, TagUsed 8) ∷ (changed 69 71 "-0" twice, TagUsed 8) ∷ (changed 50 51 "-0" twice, Form 7) ∷ []

abbrev Faults : Type 0
Faults = map (λ c. scanned c.0) wrong ≡ map (λ c. Refused c.1) wrong

faults : Faults
unfolding scanned feed read said is_used stations level_lines
faults = refl
