-- A mesh in a room that is made fatter: the room has space for its records (`lay-asks`), and with them it is what the swaps ask for
-- (`laid-ready`). Assumes nothing.
use mathlib.Core.Path.{◌≡◌, sym, ap, ap₂, ◌∙◌, subst}
use mathlib.Core.List.{List, ◌++◌, map}
use Prim.Native.Nat.{ℕ, ◌+◌, ◌*◌, ◌≤◌, ◌<◌}
use native.Mathlib.Omega.{arith}
use lib.ListN.{length, take, drop, length-append, length-map}
use lib.Seq.{take_at, drop_at}
use Rattle.survey.specs.Fit.{Fit}
use Rattle.survey.specs.Rooms.{work_room}
use Rattle.survey.specs.Survey.{Survey, count}
use Rattle.sweep.specs.Members.{Any, here, there}
use Rattle.sweep.specs.Sweep.{flat}
use Rattle.trace.specs.Crossed.{sides}
use Rattle.trace.specs.Mesh.{Sound}
use Rattle.trace.specs.Side.{left_corner}
use Rattle.neighbours.specs.Records.{records_of}
use Rattle.neighbours.specs.Room.{neighbours_in, order, threes, Holds}
use Rattle.neighbours.proofs.RecordLaws.{neighbours-length}
use Rattle.neighbours.proofs.RoomLaws.{length-flat, length-threes, threes-flat, holds-threes}
use Rattle.triangles.specs.Mesh.{lowest_first, triangles}
use Rattle.hull.specs.MeshOf.{MeshOf}
use Rattle.listing.specs.Listed.{listed}
use Rattle.listing.proofs.ListedLaws.{listed-relisted}
use Rattle.fatter.specs.Fatter.{fatter}
use Rattle.fatter.specs.Swap.{swaps}
use Rattle.hull.proofs.GridLaws.{total-ones}
use Rattle.hull.proofs.MeshOfLaws.{mesh_of}
use Rattle.hull.proofs.SoundLaws.{mesh-sound, mesh-triangles-fit, mesh-sides-fit}
use Rattle.swapping.specs.Rooms.{corners_of, twins_of, Ready}
use Rattle.swapping.proofs.ReadyLaws.{mesh-ready}

-- The sweep's triangles at the front of a room are a mesh there.
module _ (s : Survey) (fit : Fit s) {t : ℕ} (room rest : List ℕ) (n : t ≡ length (triangles s)) (e : room ≡ flat (triangles s) ++ rest) where
  pub swept-threes : threes t room ≡ triangles s
  swept-threes = ap₂ threes n e ∙ threes-flat (triangles s) rest

  pub swept-mesh : MeshOf s (threes t room)
  swept-mesh = subst (MeshOf s) (sym swept-threes) (mesh_of s fit)

-- A mesh has a triangle.
any_some : {A : Type 0} {P : A → Type 0} {l : List A} → Any P l → 0 < length l
any_some (here p) = omega arith
any_some (there a) = omega arith

module _ (s : Survey) (fit : Fit s) (t : ℕ) (room : List ℕ) (m : MeshOf s (threes t room)) where
  pub triangles-few : (0 < t) × (t ≤ 2043) × (3 * t ≤ work_room (count s))
  triangles-few =
      let n = length-threes t room in
      let fits = mesh-triangles-fit s fit (threes t room) m in
      (omega (arith, n, any_some (m.used 0 (omega (arith, fit.least)))), omega (arith, n, fits, fit.most), omega (arith, n, fits))

  pub lay-asks : work_room (count s) ≤ length room
      → Sound (threes t room) (count s) × (3 * t ≤ 32766) × (count s ≤ 32766) × (length (sides (left_corner (threes t room)) (count s)) ≤ 3 * count s)
      × (6 * t + 4 * count s ≤ length room)
  lay-asks long =
      let n = length-threes t room in
      let fits = mesh-triangles-fit s fit (threes t room) m in (
        mesh-sound s (threes t room) m,
        omega (arith, n, fits, fit.most),
        omega (arith, fit.most),
        omega (arith, mesh-sides-fit s fit (threes t room) m, fit.least),
        omega (arith, n, fits, long, fit.least),
      )

  -- With its records behind it.
  module _ (laid : List ℕ) (h : Holds (threes t room) (count s) laid) where
    corners-count : length (flat (threes t room)) ≡ 3 * t
    corners-count = length-flat (threes t room) ∙ ap (λ k. 3 * k) (length-threes t room)

    twins-count : length (neighbours_in (records_of (threes t room))) ≡ 3 * t
    twins-count = neighbours-length (threes t room) ∙ ap (λ k. 3 * k) (length-threes t room)

    corners-are : flat (threes t room) ≡ corners_of (3 * t) laid
    corners-are = sym (ap (take (3 * t)) h.room_is ∙ take_at (flat (threes t room)) _ (3 * t) corners-count)

    twins-are : neighbours_in (records_of (threes t room)) ≡ twins_of (3 * t) laid
    twins-are =
        sym
        (ap (λ l. take (3 * t) (drop (3 * t) l)) h.room_is
        ∙ ap (take (3 * t)) (drop_at (flat (threes t room)) _ (3 * t) corners-count)
        ∙ take_at (neighbours_in (records_of (threes t room))) _ (3 * t) twins-count)

    pub laid-ready : Ready s t (corners_of (3 * t) laid) (twins_of (3 * t) laid)
    laid-ready =
        let n = length-threes t room in
        let few : 3 * length (threes t room) ≤ 32766 = omega (arith, n, triangles-few.1) in
        subst (λ w. Ready s t (corners_of (3 * t) laid) w) twins-are
        (subst (λ c. Ready s t c (neighbours_in (records_of (threes t room)))) corners-are
        (subst (λ k. Ready s k (flat (threes t room)) (neighbours_in (records_of (threes t room)))) n (mesh-ready s fit (threes t room) m few)))

    -- The triangles are the same.
    pub laid-threes : threes t laid ≡ threes t room
    laid-threes = ap (λ k. threes k laid) (sym (length-threes t room)) ∙ holds-threes (threes t room) (count s) laid h

    -- Corners and twins stand in it whole.
    pub laid-long : 3 * t + 3 * t ≤ length laid
    laid-long =
        omega (
          arith,
          ap length h.room_is,
          length-append (flat (threes t room)) (neighbours_in (records_of (threes t room)) ++ (order (threes t room) (count s) ++ h.rest)),
          length-append (neighbours_in (records_of (threes t room))) (order (threes t room) (count s) ++ h.rest),
          corners-count,
          twins-count,
        )

-- Where the triangles of the last swap are listed, those made fatter stand at the front.
module _ (s : Survey) (t : ℕ) (room : List ℕ) where
  pub listed-front : (swapped : List ℕ) {after : List ℕ} → map lowest_first (threes t swapped) ≡ map lowest_first (swaps s (threes t room))
      → after ≡ flat (listed (map lowest_first (threes t swapped))) ++ drop (3 * t) swapped → take (3 * t) after ≡ flat (fatter s (threes t room))
  unfolding fatter
  listed-front swapped e f =
      ap (take (3 * t)) f
      ∙ take_at (flat (listed (map lowest_first (threes t swapped)))) (drop (3 * t) swapped) (3 * t) long
      ∙ ap (λ us. flat (listed us)) e
    where
      long : length (flat (listed (map lowest_first (threes t swapped)))) ≡ 3 * t
      long =
          let us = map lowest_first (threes t swapped) in
          omega (
            arith,
            length-flat (listed us),
            (listed-relisted us).sums (λ t. 1),
            total-ones (listed us),
            total-ones us,
            length-map (threes t swapped) lowest_first,
            length-threes t swapped,
          )
