-- `add_pair` meets its contract: NX, NY, NZ of the pair, each added with the sign of NZ. Assumes nothing.
use mathlib.Core.Path.{◌≡◌, ◌∙◌}
use Prim.Native.Nat.{◌*◌}
use native.Mathlib.Omega.{arith}
use lib.IntN.{ℤ, ◌-ℤ◌, ◌*ℤ◌}
use mir.Syntax.{w64}
use mir.Val.{to_z, of_z}
use mir.Facts.{to_z-of_z}
use Rattle.whole.specs.Range.{Within}
use Rattle.whole.proofs.RangeLaws.{within_more}
use Rattle.normal.specs.declared.Step.{Step}
use Rattle.normal.specs.declared.Normal.{Normal}
use Rattle.normal.specs.Normal.{normal_of, added_part, added, Short, Small}
use Rattle.normal.proofs.SignedLaws.{as_it_is, lent, as_named, lent-named}
use Rattle.normal.proofs.NormalLaws.{normal-small}
use Rattle.normal.proofs.add_pair.Goals as goal

-- what `cross` makes of the parts as they come to it
crossed :
    {a1 b1 a2 b2 r : ℤ} → Within 536870912 a1 → Within 536870912 b1 → Within 536870912 a2 → Within 536870912 b2
    → r ≡ to_z w64 (of_z w64 a1) *ℤ to_z w64 (of_z w64 b2) -ℤ to_z w64 (of_z w64 b1) *ℤ to_z w64 (of_z w64 a2) → r ≡ a1 *ℤ b2 -ℤ b1 *ℤ a2
crossed h k l m e = e ∙ (λ i. as_it_is h tt i *ℤ as_it_is m tt i -ℤ as_it_is k tt i *ℤ as_it_is l tt i)

module _ {a b : Step} (h : Short 536870912 a) (k : Short 536870912 b) where
  small : Small (16382 * 536870912) (normal_of a b)
  small = normal-small (omega arith) h k

  nx-is : {r : ℤ} → r ≡ to_z w64 (of_z w64 a.dy) *ℤ to_z w64 (of_z w64 b.dz) -ℤ to_z w64 (of_z w64 a.dz) *ℤ to_z w64 (of_z w64 b.dy) → r ≡ (normal_of a b).nx
  nx-is e = crossed (within_more h.dy tt) h.dz (within_more k.dy tt) k.dz e

  ny-is : {r : ℤ} → r ≡ to_z w64 (of_z w64 a.dz) *ℤ to_z w64 (of_z w64 b.dx) -ℤ to_z w64 (of_z w64 a.dx) *ℤ to_z w64 (of_z w64 b.dz) → r ≡ (normal_of a b).ny
  ny-is e = crossed h.dz (within_more h.dx tt) k.dz (within_more k.dx tt) e

  nz-is : {r : ℤ} → r ≡ to_z w64 (of_z w64 a.dx) *ℤ to_z w64 (of_z w64 b.dy) -ℤ to_z w64 (of_z w64 a.dy) *ℤ to_z w64 (of_z w64 b.dx) → r ≡ (normal_of a b).nz
  nz-is e = crossed (within_more h.dx tt) (within_more h.dy tt) (within_more k.dx tt) (within_more k.dy tt) e

-- normals with equal parts are equal
normal : {x y z u v w : ℤ} → x ≡ u → y ≡ v → z ≡ w → ◌≡◌ {A = Normal} (record { nx = x; ny = y; nz = z }) (record { nx = u; ny = v; nz = w })
normal e f g = λ i. record { nx = e i; ny = f i; nz = g i }

pub cross-nx-requires : goal.cross-nx-requires
cross-nx-requires c = (lent c.requires.1.dy tt tt, lent c.requires.1.dz tt tt, lent c.requires.2.dy tt tt, lent c.requires.2.dz tt tt)

pub cross-ny-requires : goal.cross-ny-requires
cross-ny-requires c = (lent c.requires.1.dz tt tt, lent c.requires.1.dx tt tt, lent c.requires.2.dz tt tt, lent c.requires.2.dx tt tt)

pub cross-nz-requires : goal.cross-nz-requires
cross-nz-requires c = (lent c.requires.1.dx tt tt, lent c.requires.1.dy tt tt, lent c.requires.2.dx tt tt, lent c.requires.2.dy tt tt)

pub add_signed-requires : goal.add_signed-requires
add_signed-requires c =
    let n = small c.requires.1 c.requires.2 in (
      lent c.requires.0.nx tt tt,
      lent-named (nx-is c.requires.1 c.requires.2 c.cross-nx.ensures) n.nx tt tt,
      lent-named (nz-is c.requires.1 c.requires.2 c.cross-nz.ensures) n.nz tt tt,
    )

pub add_signed-requires-2 : goal.add_signed-requires-2
add_signed-requires-2 c =
    let n = small c.requires.1 c.requires.2 in (
      lent c.requires.0.ny tt tt,
      lent-named (ny-is c.requires.1 c.requires.2 c.cross-ny.ensures) n.ny tt tt,
      lent-named (nz-is c.requires.1 c.requires.2 c.cross-nz.ensures) n.nz tt tt,
    )

pub add_signed-requires-3 : goal.add_signed-requires-3
add_signed-requires-3 c =
    let n = lent-named (nz-is c.requires.1 c.requires.2 c.cross-nz.ensures) (small c.requires.1 c.requires.2).nz tt tt in
    (lent c.requires.0.nz tt tt, n, n)

pub returns : goal.returns
unfolding added
returns c =
    let x = c.add_signed in
    let y = c.add_signed-2 in
    let z = c.add_signed-3 in
    let n = small c.requires.1 c.requires.2 in
    let nx = as_named (nx-is c.requires.1 c.requires.2 c.cross-nx.ensures) n.nx tt in
    let ny = as_named (ny-is c.requires.1 c.requires.2 c.cross-ny.ensures) n.ny tt in
    let nz = as_named (nz-is c.requires.1 c.requires.2 c.cross-nz.ensures) n.nz tt in
    normal
    (to_z-of_z {w = w64} {z = x.result} (record { sfits = x.type_inv }) ∙ x.ensures ∙ (λ i. added_part (as_it_is c.requires.0.nx tt i) (nx i) (nz i)))
    (to_z-of_z {w = w64} {z = y.result} (record { sfits = y.type_inv }) ∙ y.ensures ∙ (λ i. added_part (as_it_is c.requires.0.ny tt i) (ny i) (nz i)))
    (to_z-of_z {w = w64} {z = z.result} (record { sfits = z.type_inv }) ∙ z.ensures ∙ (λ i. added_part (as_it_is c.requires.0.nz tt i) (nz i) (nz i)))
