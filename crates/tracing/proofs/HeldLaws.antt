-- What a room holds that holds the records of a sound list of triangles and their sides in order: it tells the mesh (`held_tells`), is fit
-- to be traced (`held-ready`), and has no mark in it (`held-clear`, `held-unmarked`). Assumes nothing.
use Prim.Native.Nat.{ℕ, zero, suc, ◌+◌, ◌*◌, ◌≤◌, ◌<◌}
use native.Mathlib.Omega.{arith}
use borrow.Author.Tests.{ne_eqb}
use mathlib.Core.Path.{◌≡◌, refl, sym, ap, ◌∙◌}
use mathlib.Core.List.{List, [], ◌∷◌, ◌++◌}
use mathlib.Core.Option.{Option, none, some}
use lib.ListN.{length, get_or, length-append, length-replicate, get_or-replicate, get_or-append}
use lib.Seq.{ext_get_or, get_or-append-add}
use Rattle.sweep.specs.Sweep.{Three, flat}
use Rattle.trace.specs.Side.{reversed}
use Rattle.trace.specs.Mesh.{Sound}
use Rattle.neighbours.specs.Half.{corner_in, side_at, twin}
use Rattle.neighbours.specs.Records.{records_of}
use Rattle.neighbours.specs.Room.{number_of, neighbours_in, order, Holds}
use Rattle.neighbours.proofs.HalfLaws.{half_has, half-some}
use Rattle.neighbours.proofs.RecordLaws.{neighbours-length, neighbours_at}
use Rattle.neighbours.proofs.RoomLaws.{length-flat}
use Rattle.tracing.specs.Scan.{no_marks}
use Rattle.tracing.specs.Room.{cleared, marks_in, numbered, neighbour_in, half_at, halves_of, Ready}
use Rattle.tracing.proofs.RoomLaws.{cleared_same, marks-length, marks-entry}
use Rattle.tracing.proofs.RowLaws.{order-within}
use Rattle.tracing.proofs.StepLaws.{Tells}

-- Within a list it does not matter what is read past its end.
read_any : (l : List ℕ) (i d e : ℕ) → i < length l → get_or l i d ≡ get_or l i e
read_any [] i d e h = absurd (omega arith)
read_any (x ∷ l) zero d e h = refl
read_any (x ∷ l) (suc i) d e h = read_any l i d e (omega arith)

module _ (ts : List (Three ℕ)) (n : ℕ) (sound : Sound ts n) (few : 3 * length ts ≤ 32766) (room : List ℕ) (holds : Holds ts n room) (m : ℕ) (whole : m ≡ 3 * length ts)
  where
    abbrev o : List ℕ
    o = order ts n

    abbrev behind : List ℕ
    behind = neighbours_in (records_of ts) ++ (o ++ holds.rest)

    -- ---- the three parts
    pub held-long : 2 * m + length o ≤ length room
    held-long =
        omega (
          arith,
          whole,
          ap length holds.room_is,
          length-append (flat ts) behind,
          length-append (neighbours_in (records_of ts)) (o ++ holds.rest),
          length-append o holds.rest,
          length-flat ts,
          neighbours-length ts,
        )

    held-corner : (h : ℕ) → h < m → corner_in room h ≡ corner_in (flat ts) h
    held-corner h k = ap (λ l. corner_in l h) holds.room_is ∙ get_or-append (flat ts) behind 0 h (omega (arith, k, whole, length-flat ts))

    past-corners : (i : ℕ) → get_or room (m + i) 0 ≡ get_or behind i 0
    past-corners i =
        let e : m + i ≡ length (flat ts) + i = omega (arith, whole, length-flat ts) in
        rw e (ap (λ l. get_or l (length (flat ts) + i) 0) holds.room_is ∙ get_or-append-add (flat ts) behind i 0)

    held-neighbour : (h : ℕ) → h < m → neighbour_in m room h ≡ number_of (twin ts h)
    held-neighbour h k =
        past-corners h
        ∙ get_or-append (neighbours_in (records_of ts)) (o ++ holds.rest) 0 h (omega (arith, k, whole, neighbours-length ts))
        ∙ read_any (neighbours_in (records_of ts)) h 0 32767 (omega (arith, k, whole, neighbours-length ts))
        ∙ neighbours_at ts h (omega (arith, k, whole))

    pub held-half : (i : ℕ) → i < length o → half_at m room i ≡ get_or o i 0
    held-half i k =
        let e : 2 * m + i ≡ m + (m + i) = omega arith in
        let f : m + i ≡ length (neighbours_in (records_of ts)) + i = omega (arith, whole, neighbours-length ts) in
        ap (λ j. get_or room j 0) e ∙ past-corners (m + i) ∙ ap (λ j. get_or behind j 0) f ∙ get_or-append-add (neighbours_in (records_of ts)) (o ++ holds.rest) i 0
        ∙ get_or-append o holds.rest 0 i k

    -- ---- what they tell
    -- A neighbour is a half-side, or 32767.
    twin-small : (h : ℕ) (r : Option ℕ) → twin ts h ≡ r → (number_of r < 32768) × ((number_of r ≡ 32767 → ⊥) → number_of r < m) × (numbered (number_of r) ≡ r)
    twin-small h none e = (omega arith, λ f. absurd (f refl), refl)
    twin-small h (some g) e =
        let k = (half-some ts (reversed (side_at ts h)) g e).0 in
        (omega (arith, k, few), λ f. omega (arith, k, whole), rw (ne_eqb g 32767 (λ q. omega (arith, q, k, few))))

    pub held_tells : Tells ts (halves_of m room).corner (halves_of m room).across
    held_tells =
        record {
          corner_is = λ h k. held-corner h (omega (arith, k, whole));
          across_is = λ h k. ap numbered (held-neighbour h (omega (arith, k, whole))) ∙ (twin-small h (twin ts h) refl).2;
        }

    pub held-ready : Ready m n (length o) room
    held-ready =
        record {
          meshed =
              record {
                triangles = length ts;
                whole = whole;
                small = omega (arith, whole, few);
                long = omega (arith, held-long);
                corners = λ h k. omega (arith, held-corner h k, sound.within _ _ _ (half_has ts h (omega (arith, k, whole))));
                neighbours = λ h k f. let e = held-neighbour h k in omega (arith, e, (twin-small h (twin ts h) refl).1 (λ q. f (e ∙ q)));
              };
          listed = held-long;
          halves = λ i k. omega (arith, held-half i k, order-within ts n sound i k, whole);
        }

    -- ---- no mark
    small : (h : ℕ) → h < m → get_or room (m + h) 0 < 32768
    small h k = omega (arith, held-neighbour h k, (twin-small h (twin ts h) refl).0)

    pub held-clear : cleared m m room ≡ room
    held-clear = cleared_same m room (omega (arith, held-long)) small

    pub held-unmarked : marks_in m room ≡ no_marks m
    held-unmarked =
        ext_get_or 0 (marks_in m room) (no_marks m) (marks-length m room ∙ sym (length-replicate m 0))
        (λ h k. let l : h < m = omega (arith, k, marks-length m room) in
        let a = marks-entry m room h l in
        let b = get_or-replicate {A = ℕ} m h 0 0 l in
        let c = small h l in
        omega (arith, a, b, c))
