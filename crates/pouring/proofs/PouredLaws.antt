-- Bytes poured one part behind the other, from the last to the first, and into a room that suffices or has no place for them. Assumes nothing.
use mathlib.Core.Path.{◌≡◌, refl, sym, ap, ◌∙◌}
use mathlib.Core.List.{List, [], ◌∷◌, ◌++◌}
use Prim.Native.Nat.{ℕ, ◌+◌, ◌≤◌}
use native.Mathlib.Omega.{arith}
use native.Mathlib.Numerals.{add-one}
use lib.ListN.{length, set, drop, length-append}
use lib.Seq.{set_comm, set_out, sets, sets-eq}
use Rattle.pouring.specs.Poured.{poured}

pub poured_none : (old : List ℕ) (at : ℕ) → poured old at [] ≡ old
unfolding poured
poured_none old at = refl

poured_one : (old : List ℕ) (at b : ℕ) → poured old at (b ∷ []) ≡ set old at b
unfolding poured
poured_one old at b = refl

-- One part behind the other.
pub poured_on : (old : List ℕ) (at : ℕ) (bs cs : List ℕ) → poured old at (bs ++ cs) ≡ poured (poured old at bs) (at + length bs) cs
unfolding poured
poured_on old at [] cs = ap (λ (k : ℕ). poured old k cs) (omega arith)
poured_on old at (b ∷ bs) cs =
    poured_on (set old at b) (at + 1) bs cs ∙ ap (λ (k : ℕ). poured (poured (set old at b) (at + 1) bs) k cs) (omega arith)

-- A byte behind the others may be put before them.
set_before : (bs old : List ℕ) (at m b : ℕ) → at + length bs ≤ m → set (poured old at bs) m b ≡ poured (set old m b) at bs
unfolding poured
set_before [] old at m b h = refl
set_before (c ∷ bs) old at m b h =
    set_before bs (set old at c) (at + 1) m b (omega arith)
    ∙ ap (λ (l : List ℕ). poured l (at + 1) bs) (set_comm old at m c b (λ e. omega arith))

pub poured_last : (old : List ℕ) (at : ℕ) (bs : List ℕ) (b : ℕ) → poured old at (bs ++ (b ∷ [])) ≡ poured (set old (at + length bs) b) at bs
poured_last old at bs b =
    poured_on old at bs (b ∷ []) ∙ poured_one (poured old at bs) (at + length bs) b ∙ set_before bs old at (at + length bs) b (omega arith)

-- Behind the room nothing is put.
pub poured-past : (bs old : List ℕ) (at : ℕ) → length old ≤ at → poured old at bs ≡ old
unfolding poured
poured-past [] old at h = refl
poured-past (b ∷ bs) old at h =
    ap (λ (l : List ℕ). poured l (at + 1) bs) (set_out old at b h) ∙ poured-past bs old (at + 1) (omega arith)

-- Bytes that have room stand in it, and the rest of the room is as it was.
pub poured-sets : (bs old : List ℕ) (at : ℕ) → poured old at bs ≡ sets old at bs
unfolding poured
poured-sets [] old at = refl
poured-sets (b ∷ bs) old at = poured-sets bs (set old at b) (at + 1) ∙ ap (λ (k : ℕ). sets (set old at b) k bs) (add-one at)

pub poured-whole : (bs old : List ℕ) → length bs ≤ length old → poured old 0 bs ≡ bs ++ drop (length bs) old
poured-whole bs old h =
    let e : 0 + length bs ≡ length bs = omega arith in
    poured-sets bs old 0 ∙ sets-eq bs old 0 (omega arith) ∙ ap (λ (k : ℕ). bs ++ drop k old) e

-- What a function that puts bytes ensures: where they end, and what the room holds.
abbrev pub Put : List ℕ → ℕ → List ℕ → ℕ → List ℕ → Type 0
Put old at bs r new = (r ≡ at + length bs) × (new ≡ poured old at bs)

pub put_on : (old : List ℕ) (at : ℕ) (bs : List ℕ) (r : ℕ) (new : List ℕ) (cs : List ℕ) (q : ℕ) (last : List ℕ)
    → Put old at bs r new → Put new r cs q last → Put old at (bs ++ cs) q last
put_on old at bs r new cs q last e f = (omega (arith, length-append bs cs), f.1 ∙ rw (e.0, e.1) (sym (poured_on old at bs cs)))

pub put_byte : (old : List ℕ) (at b : ℕ) → Put old at (b ∷ []) (at + 1) (set old at b)
put_byte old at b = (refl, sym (poured_one old at b))
