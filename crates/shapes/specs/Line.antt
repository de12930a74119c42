-- A line of key=value: document 01, "Text". 'Lines of key=value end in LF'. Assumes nothing.
use Rattle.std.specs.Prelude.{Bool, false, cond, Result, Ok, Err, ◌&&◌, ◌||◌, List, [], ◌∷◌, ℕ, ◌+◌, ◌*◌, ◌-◌, eqb, leb, ltb}
use Rattle.shapes.specs.declared.line.Kind.{Kind}
use Rattle.shapes.specs.declared.line.Kind.TheVariants.{Natural, Whole, Tag, Choice}
use Rattle.shapes.specs.declared.line.Shape.{Shape}
use Rattle.shapes.specs.declared.line.Part.{Part}
use Rattle.shapes.specs.declared.line.Part.TheVariants.{Key, Begun, Hyphen, Plain, Minus, Word, Wrong}
use Rattle.shapes.specs.declared.line.Fault.{Fault}
use Rattle.shapes.specs.declared.line.Fault.TheVariants.{Form, TagUsed}

-- LF, = and the hyphen
abbrev pub line_end : ℕ
line_end = 10

abbrev pub equals : ℕ
equals = 61

abbrev pub hyphen : ℕ
hyphen = 45

-- The bytes 0 to 9.
abbrev pub is_digit : ℕ → Bool
is_digit b = leb 48 b && leb b 57

-- 'ASCII letters, digits or hyphens'
abbrev pub is_word_byte : ℕ → Bool
is_word_byte b = eqb b hyphen || (is_digit b || ((leb 65 b && leb b 90) || (leb 97 b && leb b 122)))

-- A word of 1 to 8 such bytes is one number in base 256: two words are one only if they agree in every byte. This is the least of eight
-- bytes; b goes on with a word of at most seven.
abbrev pub full_word : ℕ
full_word = 72057594037927936

abbrev pub grows : ℕ → ℕ → Bool
grows word b = is_word_byte b && ltb word full_word

-- 'no leading zeros': b goes on with the digits of v. A number of more than nineteen digits is out of every range; this is the least of
-- nineteen.
abbrev pub full_number : ℕ
full_number = 1000000000000000000

abbrev pub goes_on : ℕ → ℕ → Bool
goes_on v b = is_digit b && (leb 1 v && ltb v full_number)

-- The value of a line, behind its =.
abbrev pub begun : Kind → Part
begun (Natural least most) = Begun
begun (Whole least most) = Begun
begun Tag = Word 0
begun (Choice a b) = Word 0

-- One byte more of a line.
abbrev pub key_on : Shape → ℕ → ℕ → Part
key_on s key b =
    cond (eqb b equals) (cond (eqb key s.key) (begun s.kind) Wrong) (cond (grows key b) (Key (256 * key + b)) Wrong)

abbrev pub begun_on : ℕ → Part
begun_on b = cond (is_digit b) (Plain (b - 48)) (cond (eqb b hyphen) Hyphen Wrong)

-- 'no -0'
abbrev pub hyphen_on : ℕ → Part
hyphen_on b = cond (is_digit b) (cond (leb b 48) Wrong (Minus (b - 48))) Wrong

abbrev pub plain_on : ℕ → ℕ → Part
plain_on v b = cond (goes_on v b) (Plain (10 * v + (b - 48))) Wrong

abbrev pub minus_on : ℕ → ℕ → Part
minus_on v b = cond (goes_on v b) (Minus (10 * v + (b - 48))) Wrong

abbrev pub word_on : ℕ → ℕ → Part
word_on word b = cond (grows word b) (Word (256 * word + b)) Wrong

unfoldable pub read : Shape → Part → ℕ → Part
read s (Key key) b = key_on s key b
read s Begun b = begun_on b
read s Hyphen b = hyphen_on b
read s (Plain v) b = plain_on v b
read s (Minus v) b = minus_on v b
read s (Word word) b = word_on word b
read s Wrong b = Wrong

-- The number of a refusal, 7 'text or tag not of the stated form' or 8 'tag used before'.
abbrev pub fault_number : Fault → ℕ
fault_number Form = 7
fault_number TagUsed = 8

-- 'text or tag not of the stated form'
abbrev pub ranged : ℕ → ℕ → ℕ → Result ℕ Fault
ranged least most v = cond (ltb v least) (Err Form) (cond (ltb most v) (Err Form) (Ok v))

abbrev pub said_natural : ℕ → ℕ → Part → Result ℕ Fault
said_natural least most (Plain v) = ranged least most v
said_natural least most (Minus v) = Err Form
said_natural least most (Key k) = Err Form
said_natural least most Begun = Err Form
said_natural least most Hyphen = Err Form
said_natural least most (Word w) = Err Form
said_natural least most Wrong = Err Form

-- A whole number is told 32,768 above itself, so that none is below 0.
abbrev pub zero_at : ℕ
zero_at = 32768

abbrev pub said_minus : ℕ → ℕ → ℕ → Result ℕ Fault
said_minus least most v = cond (ltb zero_at v) (Err Form) (ranged least most (zero_at - v))

abbrev pub said_whole : ℕ → ℕ → Part → Result ℕ Fault
said_whole least most (Plain v) = ranged least most (zero_at + v)
said_whole least most (Minus v) = said_minus least most v
said_whole least most (Key k) = Err Form
said_whole least most Begun = Err Form
said_whole least most Hyphen = Err Form
said_whole least most (Word w) = Err Form
said_whole least most Wrong = Err Form

-- The word of a tag's line, or of a choice's; 0 where it has none.
abbrev pub word_of : Part → ℕ
word_of (Word w) = w
word_of (Key k) = 0
word_of Begun = 0
word_of Hyphen = 0
word_of (Plain v) = 0
word_of (Minus v) = 0
word_of Wrong = 0

-- 'tag used before'
abbrev pub said_tag : Bool → ℕ → Result ℕ Fault
said_tag used w = cond (ltb w 1) (Err Form) (cond used (Err TagUsed) (Ok w))

abbrev pub said_choice : ℕ → ℕ → ℕ → Result ℕ Fault
said_choice a b w = cond (ltb w 1) (Err Form) (cond (eqb w a) (Ok 0) (cond (eqb w b) (Ok 1) (Err Form)))

unfoldable pub said : Kind → Bool → Part → Result ℕ Fault
said (Natural least most) used p = said_natural least most p
said (Whole least most) used p = said_whole least most p
said Tag used p = said_tag used (word_of p)
said (Choice a b) used p = said_choice a b (word_of p)

-- The number is one of these: 'compared by its bytes'.
unfoldable pub is_used : List ℕ → ℕ → Bool
is_used [] w = false
is_used (t ∷ used) w = eqb t w || is_used used w

-- What a line says whose bytes come to p, where these tags are used.
abbrev pub line_said : Shape → List ℕ → Part → Result ℕ Fault
line_said s used p = said s.kind (is_used used (word_of p)) p

-- The bytes of a text up to its first LF, or all.
unfoldable pub line_in : List ℕ → List ℕ
line_in [] = []
line_in (b ∷ t) = cond (eqb b line_end) [] (b ∷ line_in t)
