-- The known meshes of document 01, by computation: of the page's definition and of the sweep. Assumes nothing.
use mathlib.Core.List.{[], ◌∷◌}
use mathlib.Core.Path.{◌≡◌, refl}
use Rattle.whole.specs.Place.{place}
use Rattle.whole.specs.Turn.{turn}
use Rattle.sweep.specs.Sweep.{tri, joined}
use Rattle.sweep.specs.Page.{is_before, every, is_clear, is_side, sides_to, sides_of, hull_of, facing, run_fan, grow, lead, page}

-- T1: the square.
square : page (λ p. p) (place 0 0 ∷ place 0 8 ∷ place 8 0 ∷ place 8 8 ∷ []) ≡
    tri (place 0 0) (place 8 0) (place 0 8) ∷ tri (place 8 0) (place 8 8) (place 0 8) ∷ []
unfolding page lead grow run_fan facing hull_of sides_of sides_to is_side is_clear every is_before joined turn
square = refl

-- T2: the square with its centre.
centred : page (λ p. p) (place 0 0 ∷ place 0 8 ∷ place 4 4 ∷ place 8 0 ∷ place 8 8 ∷ []) ≡
    tri (place 0 0) (place 4 4) (place 0 8) ∷ tri (place 0 0) (place 8 0) (place 4 4) ∷ tri (place 8 0) (place 8 8) (place 4 4)
    ∷ tri (place 4 4) (place 8 8) (place 0 8) ∷ []
unfolding page lead grow run_fan facing hull_of sides_of sides_to is_side is_clear every is_before joined turn
centred = refl

-- A run of three, then a station to its left: the run's sides in run order.
left_of_run : page (λ p. p) (place 0 0 ∷ place 1 0 ∷ place 2 0 ∷ place 2 3 ∷ []) ≡
    tri (place 1 0) (place 2 3) (place 0 0) ∷ tri (place 2 0) (place 2 3) (place 1 0) ∷ []
unfolding page lead grow run_fan facing hull_of sides_of sides_to is_side is_clear every is_before joined turn
left_of_run = refl
