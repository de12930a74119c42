-- Sums over directed sides: of a triangle, of a list of sides, of a chain. Assumes nothing.
use Rattle.std.specs.Prelude.{List, ℕ, ◌+◌}
use Rattle.whole.specs.Place.{Place}
use Rattle.sweep.specs.Sweep.{Triangle, Edge, pairs}
use Rattle.sweep.specs.Members.{total}

-- A weight of directed sides, read backwards.
abbrev pub back : (Place → Place → ℕ) → Place → Place → ℕ
back g a b = g b a

-- g over the three directed sides of a triangle, at one side, and over the sides of a chain, upwards.
abbrev pub around : (Place → Place → ℕ) → Triangle → ℕ
around g t = g t.a t.b + g t.b t.c + g t.c t.a

abbrev pub on : (Place → Place → ℕ) → Edge → ℕ
on g e = g e.from e.to

abbrev pub along : (Place → Place → ℕ) → Place → List Place → ℕ
along g t l = total (on g) (pairs t l)
