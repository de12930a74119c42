-- Negating all heights negates every interpolated height, but for the sign of a zero. Assumes nothing.
--
-- The steps take a corner's height and slopes, which are negated, and factors and divisors of places, which are as they were. Each is
-- therefore opposite, by the operations that it is made of: the corners, the coefficients, the nesting.
use mathlib.Core.Path.{sym, subst}
use Prim.Native.Nat.{ℕ}
use lib.IntN.{ℤ, neg_ℤ}
use lib.Ieee.{Float}
use Rattle.whole.specs.Place.{Place}
use Rattle.whole.specs.Turn.{across, climb}
use Rattle.survey.specs.Survey.{Survey, place_of, height_of}
use Rattle.sweep.specs.Sweep.{Three}
use Rattle.slopes.specs.declared.slope.Five.{Five}
use Rattle.quintic.specs.declared.Steps.{Steps}
use Rattle.quintic.specs.declared.Corner.{Corner}
use Rattle.quintic.specs.declared.Steep.{Steep}
use Rattle.quintic.specs.declared.Mixed.{Mixed}
use Rattle.quintic.specs.declared.Middle.{Middle}
use Rattle.quintic.specs.Real.{whole, half, two, three, four, six, seven, ten, fifteen, minus}
use Rattle.quintic.specs.Quintic.{steps_of, corner_of, exchanged, steep_of, p41_of, p14_of, mixed_of, us, sv, m_of, middle_of, coefficients, u_of, v_of, nested, quintic}
use Rattle.held.specs.Held.{five, corner_at, interpolated}
use Rattle.mirror.specs.Mirror.{negated, five_negated, Opposite}
use Rattle.mirror.proofs.FloatLaws.{◌plus◌, ◌less◌, ◌by◌, ◌of◌, divided, whole-opposite, slope-opposite}
use Rattle.mirror.proofs.SlopeLaws.{height-negated, five-negated}

-- ---- the corners
record Corners (k l : Corner) : Type 0 where
  z : Opposite k.z l.z
  zu : Opposite k.zu l.zu
  zv : Opposite k.zv l.zv
  zuu : Opposite k.zuu l.zuu
  zuv : Opposite k.zuv l.zuv
  zvv : Opposite k.zvv l.zvv

corner-opposite : (e : Steps) (z : ℤ) (f : Five) → Corners (corner_of e z f) (corner_of e (neg_ℤ z) (five_negated f))
unfolding corner_of
corner-opposite e z f =
    let zx = slope-opposite f.p in
    let zy = slope-opposite f.q in
    let zxx = slope-opposite f.r in
    let zxy = slope-opposite f.s in
    let zyy = slope-opposite f.t in
    record {
      z = whole-opposite z;
      zu = whole _ of zx plus whole _ of zy;
      zv = whole _ of zx plus whole _ of zy;
      zuu = whole _ of zxx plus whole _ of zxy plus whole _ of zyy;
      zuv = whole _ of zxx plus whole _ of zxy plus whole _ of zyy;
      zvv = whole _ of zxx plus whole _ of zxy plus whole _ of zyy;
    }

-- ---- the coefficients
record Steeps (p q : Steep) : Type 0 where
  p30 : Opposite p.p30 q.p30
  p40 : Opposite p.p40 q.p40
  p50 : Opposite p.p50 q.p50

record Mixes (p q : Mixed) : Type 0 where
  p21 : Opposite p.p21 q.p21
  p31 : Opposite p.p31 q.p31

record Middles (p q : Middle) : Type 0 where
  p22 : Opposite p.p22 q.p22
  p32 : Opposite p.p32 q.p32
  p23 : Opposite p.p23 q.p23

exchanged-opposite : {k l : Corner} → Corners k l → Corners (exchanged k) (exchanged l)
exchanged-opposite h = record { z = h.z; zu = h.zv; zv = h.zu; zuu = h.zvv; zuv = h.zuv; zvv = h.zuu }

module _ {k1 k2 l1 l2 : Corner} (h : Corners k1 l1) (g : Corners k2 l2) where
  steep-opposite : Steeps (steep_of k1 k2) (steep_of l1 l2)
  unfolding steep_of
  steep-opposite =
      let h1 = g.z less h.z less h.zu less half of h.zuu in
      let h2 = g.zu less h.zu less h.zuu in
      let h3 = g.zuu less h.zuu in
      record {
        p30 = ten of h1 less four of h2 plus half of h3;
        p40 = minus fifteen of h1 plus seven of h2 less h3;
        p50 = six of h1 less three of h2 plus half of h3;
      }

  mixed-opposite : {p q : Float} → Opposite p q → Mixes (mixed_of k1 k2 p) (mixed_of l1 l2 q)
  unfolding mixed_of
  mixed-opposite p41 =
      let h1 = g.zv less h.zv less h.zuv less p41 in
      let h2 = g.zuv less h.zuv less four of p41 in
      record { p21 = three of h1 less h2; p31 = minus two of h1 plus h2 }

p41-opposite : (e : Steps) {p q : Float} → Opposite p q → Opposite (p41_of e p) (p41_of e q)
unfolding p41_of
p41-opposite e h = _ of h

p14-opposite : (e : Steps) {p q : Float} → Opposite p q → Opposite (p14_of e p) (p14_of e q)
unfolding p14_of
p14-opposite e h = _ of h

m-opposite : (us sv : ℤ) {p50 p41 p14 p05 q50 q41 q14 q05 : Float} → Opposite p50 q50 → Opposite p41 q41 → Opposite p14 q14 → Opposite p05 q05
    → Opposite (m_of us sv p50 p41 p14 p05) (m_of us sv q50 q41 q14 q05)
unfolding m_of
m-opposite us sv p50 p41 p14 p05 = whole _ of p50 less whole _ of p41 plus whole _ of p14 less whole _ of p05

middle-opposite : (us sv : ℤ) {h2 h3 m i2 i3 n : Float} → Opposite h2 i2 → Opposite h3 i3 → Opposite m n
    → Middles (middle_of us sv h2 h3 m) (middle_of us sv i2 i3 n)
unfolding middle_of
middle-opposite us sv h2 h3 m =
    let p22 = divided (whole _ of h2 plus whole _ of h3 less m) (whole _) in
    record { p22 = p22; p32 = h2 less p22; p23 = h3 less p22 }

-- ---- all of them, and the nesting
quintic-opposite : (e : Steps) {k1 k2 k3 l1 l2 l3 : Corner} → Corners k1 l1 → Corners k2 l2 → Corners k3 l3 → (X Y : ℤ)
    → Opposite (quintic e k1 k2 k3 X Y) (quintic e l1 l2 l3 X Y)
unfolding coefficients nested
quintic-opposite e k1 k2 k3 X Y =
    let along-u = steep-opposite k1 k2 in
    let along-v = steep-opposite (exchanged-opposite k1) (exchanged-opposite k3) in
    let p41 = p41-opposite e along-u.p50 in
    let p14 = p14-opposite e along-v.p50 in
    let at-2 = mixed-opposite k1 k2 p41 in
    let at-3 = mixed-opposite (exchanged-opposite k1) (exchanged-opposite k3) p14 in
    let p20 = half of k1.zuu in
    let p02 = half of k1.zvv in
    let h2 = half of k2.zvv less p02 less at-3.p21 in
    let h3 = half of k3.zuu less p20 less at-2.p21 in
    let last = middle-opposite (us e) (sv e) h2 h3 (m-opposite (us e) (sv e) along-u.p50 p41 p14 along-v.p50) in
    let u = u_of e X Y in
    let v = v_of e X Y in
    let q0 = ((((along-v.p50 by v plus along-v.p40) by v plus along-v.p30) by v plus p02) by v plus k1.zv) by v plus k1.z in
    let q1 = (((p14 by v plus at-3.p31) by v plus at-3.p21) by v plus k1.zuv) by v plus k1.zu in
    let q2 = ((last.p23 by v plus last.p22) by v plus at-2.p21) by v plus p20 in
    let q3 = (last.p32 by v plus at-2.p31) by v plus along-u.p30 in
    let q4 = p41 by v plus along-u.p40 in
    ((((along-u.p50 by u plus q4) by u plus q3) by u plus q2) by u plus q1) by u plus q0

-- ---- of every survey, triangle and place
corner-negated : (s : Survey) (e : Steps) (k : ℕ) → Corners (corner_at s e k) (corner_at (negated s) e k)
corner-negated s e k =
    subst (Corners (corner_at s e k)) (λ t. corner_of e (sym (height-negated s k) t) (sym (five-negated s k) t))
    (corner-opposite e (height_of s k) (five s k))

pub interpolated-negated : (s : Survey) (t : Three ℕ) (p : Place) → Opposite (interpolated s t p) (interpolated (negated s) t p)
unfolding interpolated
interpolated-negated s t p =
    let e = steps_of (place_of s t.a) (place_of s t.b) (place_of s t.c) in
    quintic-opposite e (corner-negated s e t.a) (corner-negated s e t.b) (corner-negated s e t.c)
    (across (place_of s t.a) p) (climb (place_of s t.a) p)
