-- The bytes of a line, read from its own part of the two lists. Assumes nothing.
use mathlib.Core.Path.{◌≡◌, refl, ap, ap₂, ◌∙◌}
use mathlib.Core.List.{List, ◌++◌}
use Prim.Native.Nat.{ℕ, zero, suc, ◌+◌, ◌<◌}
use native.Mathlib.Omega.{arith}
use lib.ListN.{get_or, take, drop}
use Rattle.std.proofs.lemmas.List.{get_or-take, get_or-drop}
use Rattle.shapes.specs.Bytes.{line_bytes}
use Rattle.lists.specs.Rows.{rows}
use Rattle.formats.specs.Lines.{x_line, y_line, kind_line}
use Rattle.formats.specs.Contours.{most_spot}
use Rattle.plotting.specs.Records.{vertices_of, kind_of}
use Rattle.plotting.specs.Bytes.{count_bytes, drawn_bytes}

rows-agree : (f g : ℕ → List ℕ) (n : ℕ) → ((j : ℕ) → j < n → f j ≡ g j) → rows f n ≡ rows g n
rows-agree f g zero h = refl
rows-agree f g (suc n) h = ap₂ ◌++◌ (rows-agree f g n (λ j l. h j (omega arith))) (h n (omega arith))

-- The n numbers of a list from place `from` on.
abbrev pub part : ℕ → ℕ → List ℕ → List ℕ
part from n l = take n (drop from l)

part-at : (from n : ℕ) (l : List ℕ) (j : ℕ) → j < n → get_or (part from n l) (0 + j) 0 ≡ get_or l (from + j) 0
part-at from n l j h = let e : 0 + j ≡ j = omega arith in rw e (get_or-take n (drop from l) j 0 h ∙ get_or-drop from l j 0)

pub drawn_part : (xs ys : List ℕ) (from r : ℕ) → drawn_bytes (part from (vertices_of r) xs) (part from (vertices_of r) ys) 0 r ≡ drawn_bytes xs ys from r
drawn_part xs ys from r =
    ap (λ l. (line_bytes kind_line (kind_of r) ++ count_bytes (vertices_of r)) ++ l)
    (rows-agree _ _ (vertices_of r)
    (λ j h. ap₂ (λ v w. line_bytes (x_line most_spot) v ++ line_bytes (y_line most_spot) w) (part-at from (vertices_of r) xs j h) (part-at from (vertices_of r) ys j h)))
