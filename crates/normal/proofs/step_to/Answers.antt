-- `step_to` meets its contract: its three parts are in range. Assumes nothing.
use mathlib.Core.Path.{◌≡◌, sym, ◌∙◌, subst}
use Prim.Native.Nat.{ℕ, ◌<◌, ◌≤◌}
use native.Mathlib.Omega.{arith}
use lib.IntN.{ℤ}
use mir.Syntax.{w64}
use mir.Facts.{to_z-of_z}
use Rattle.whole.specs.Turn.{across, climb}
use Rattle.normal.specs.declared.Step.{Step}
use Rattle.normal.proofs.step_to.Goals as goal

below : {i m n : ℕ} → i < m → m ≤ n → i < n
below h l = omega arith

-- steps with equal parts are equal
step : {x y z u v w : ℤ} → x ≡ u → y ≡ v → z ≡ w → ◌≡◌ {A = Step} (record { dx = x; dy = y; dz = z }) (record { dx = u; dy = v; dz = w })
step e f g = λ i. record { dx = e i; dy = f i; dz = g i }

pub run_to-requires : goal.run_to-requires
run_to-requires c = (c.requires.2, c.requires.3, c.requires.0.x-range _ c.requires.2, c.requires.0.x-range _ c.requires.3)

pub run_to-requires-2 : goal.run_to-requires-2
run_to-requires-2 c =
    let n = sym c.requires.0.ys-count in (
      subst (λ (m : ℕ). c.args.i < m) n c.requires.2,
      subst (λ (m : ℕ). c.args.k < m) n c.requires.3,
      c.requires.0.y-range _ c.requires.2,
      c.requires.0.y-range _ c.requires.3,
    )

pub rise_to-requires : goal.rise_to-requires
rise_to-requires c =
    let h = c.requires.1 in
    (below c.requires.2 h.enough, below c.requires.3 h.enough, h.within _ c.requires.2, h.within _ c.requires.3)

pub returns : goal.returns
unfolding across climb
returns c =
    let dx = c.run_to in
    let dy = c.run_to-2 in
    let dz = c.rise_to in
    step (to_z-of_z {w = w64} {z = dx.result} (record { sfits = dx.type_inv }) ∙ dx.ensures) (to_z-of_z {w = w64} {z = dy.result} (record { sfits = dy.type_inv }) ∙ dy.ensures) (to_z-of_z {w = w64} {z = dz.result} (record { sfits = dz.type_inv }) ∙ dz.ensures)
