-- The figures of the triangles of a room, one triangle more at a time. Assumes nothing.
use mathlib.Core.Path.{◌≡◌, refl, sym, ap, ◌∙◌}
use mathlib.Core.Bool.{Bool, true, false}
use mathlib.Core.List.{List, [], ◌∷◌, ◌++◌}
use Prim.Native.Nat.{ℕ, ◌+◌}
use native.Mathlib.Numerals.{add-one}
use native.Mathlib.Omega.{arith}
use lib.IntN.{ℤ, pos, ◌+ℤ◌}
use Rattle.whole.proofs.Bridge.{int, add}
use Rattle.survey.specs.Survey.{Survey}
use Rattle.sweep.specs.Members.{sum}
use Rattle.sweep.specs.Sweep.{Three, triangle_in}
use Rattle.neighbours.specs.Room.{threes}
use Rattle.neighbours.proofs.RoomLaws.{threes-next}
use Rattle.parcels.specs.Area.{twice_within}
use Rattle.parcels.specs.Parts.{part_of}
use Rattle.parcels.specs.Served.{ground_of}
use Rattle.survey.specs.declared.answers.Figures.{Figures}
use Rattle.served.specs.Figures.{Tallied, PartsOf}

sum_last : {A : Type 0} (f : A → ℤ) (l : List A) (x : A) → sum f (l ++ (x ∷ [])) ≡ sum f l +ℤ f x
unfolding sum
sum_last f [] x = omega (arith, int, add (f x) (pos 0), add (pos 0) (f x))
sum_last f (y ∷ l) x =
    omega (arith, int, sum_last f l x, add (f y) (sum f (l ++ (x ∷ []))), add (sum f l) (f x), add (f y) (sum f l), add (f y +ℤ sum f l) (f x))

module _ (s : Survey) (slopes : List ℤ) (style : ℕ) (level : ℤ) (room : List ℕ) where
  pub tallied_none : Tallied s slopes style level (threes 0 room) (record { served = 0; unserved = 0 })
  unfolding ground_of sum threes
  tallied_none = record { served_is = refl; unserved_is = refl }

  ground-more : (k m n : ℕ) (side : Bool) → pos m ≡ ground_of s (threes k room) slopes style level side
      → pos n ≡ twice_within (part_of s slopes style level side (triangle_in room k)) → pos (m + n) ≡ ground_of s (threes (k + 1) room) slopes style level side
  unfolding ground_of
  ground-more k m n side e f =
      let area : Three ℕ → ℤ = λ t. twice_within (part_of s slopes style level side t) in
      (λ i. e i +ℤ f i)
      ∙ sym (sum_last area (threes k room) (triangle_in room k))
      ∙ sym (ap (λ (j : ℕ). sum area (threes j room)) (add-one k) ∙ ap (sum area) (threes-next k room))

  pub tallied-more : (k : ℕ) {f p : Figures} → Tallied s slopes style level (threes k room) f → PartsOf s slopes style level (triangle_in room k) p
      → Tallied s slopes style level (threes (k + 1) room) (record { served = f.served + p.served; unserved = f.unserved + p.unserved })
  tallied-more k {f} {p} h q =
      record {
        served_is = ground-more k f.served p.served false h.served_is q.served-part;
        unserved_is = ground-more k f.unserved p.unserved true h.unserved_is q.unserved-part;
      }
