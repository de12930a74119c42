-- The values that a line may have: document 01, "Text". Assumes nothing.
use Rattle.std.specs.Prelude.{true, false, ◌≡◌, List, [], ◌∷◌, ℕ, ◌+◌, ◌≤◌, ◌<◌}
use Rattle.shapes.specs.declared.line.Kind.{Kind}
use Rattle.shapes.specs.declared.line.Kind.TheVariants.{Natural, Whole, Tag, Choice}
use Rattle.shapes.specs.declared.line.Shape.{Shape}
use Rattle.shapes.specs.Line.{is_word_byte, is_used, zero_at}
use Rattle.shapes.specs.Bytes.{word_bytes}

abbrev pub AllOf : (ℕ → Type 0) → List ℕ → Type 0
AllOf P [] = Unit
AllOf P (b ∷ l) = P b × AllOf P l

abbrev pub WordByte : ℕ → Type 0
WordByte b = is_word_byte b ≡ true

-- '1 to 8 ASCII letters, digits or hyphens', as one number.
abbrev pub IsWord : ℕ → Type 0
IsWord w = AllOf WordByte (word_bytes w) × (w < 18446744073709551616)

-- The value of a line of this kind, where these tags are used.
abbrev pub InRange : Kind → List ℕ → ℕ → Type 0
InRange (Natural least most) used v = (least ≤ v) × (v ≤ most)
InRange (Whole least most) used v = (least ≤ v) × (v ≤ most)
InRange Tag used v = IsWord v × (is_used used v ≡ false)
InRange (Choice a b) used v = v ≤ 1

-- What is asked of a shape: its key is a word, its numbers have at most nineteen digits, its two words differ.
abbrev pub SoundKind : Kind → Type 0
SoundKind (Natural least most) = most < 10000000000000000000
SoundKind (Whole least most) = most < zero_at + 10000000000000000000
SoundKind Tag = Unit
SoundKind (Choice a b) = IsWord a × IsWord b × (a ≡ b → ⊥)

abbrev pub Sound : Shape → Type 0
Sound s = IsWord s.key × SoundKind s.kind
