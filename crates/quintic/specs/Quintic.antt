-- Akima's quintic over one triangle: document 01, "Height at a place". Corner 1 is where u and v are 0, u is 1 at corner 2 and v is 1
-- at corner 3. Assumes nothing.
use Rattle.std.specs.Prelude.{ℕ, ℤ, pos, neg_ℤ, ◌+ℤ◌, ◌-ℤ◌, ◌*ℤ◌, Float}
use Rattle.whole.specs.Place.{Place}
use Rattle.whole.specs.Range.{Within}
use Rattle.survey.specs.Limits.{most_coordinate}
use Rattle.slopes.specs.declared.slope.Five.{Five}
use Rattle.quintic.specs.declared.Steps.{Steps}
use Rattle.quintic.specs.declared.Corner.{Corner}
use Rattle.quintic.specs.declared.Steep.{Steep}
use Rattle.quintic.specs.declared.Mixed.{Mixed}
use Rattle.quintic.specs.declared.Middle.{Middle}
use Rattle.quintic.specs.declared.Coefficients.{Coefficients}
use Rattle.quintic.specs.Real.{◌⊞◌, ◌⊟◌, ◌⊠◌, ◌⊘◌, whole, half, two, three, four, six, seven, ten, fifteen, unit, minus}

-- 'a = x2-x1, b = x3-x1, c = y2-y1, d = y3-y1'
unfoldable pub steps_of : Place → Place → Place → Steps
steps_of p1 p2 p3 =
    record { a = pos p2.x -ℤ pos p1.x; b = pos p3.x -ℤ pos p1.x; c = pos p2.y -ℤ pos p1.y; d = pos p3.y -ℤ pos p1.y }

-- Steps no longer than the largest coordinate.
pub record Short (e : Steps) : Type 0 where
  pub a : Within most_coordinate e.a
  pub b : Within most_coordinate e.b
  pub c : Within most_coordinate e.c
  pub d : Within most_coordinate e.d

-- 'zx, zy, zxx, zxy, zyy are p, q, r, s, t over 65,536.'
abbrev pub over : ℤ → Float
over p = whole p ⊘ unit

-- 'At each corner: zu = a·zx + c·zy; zv = b·zx + d·zy; zuu = aa·zxx + 2ac·zxy + cc·zyy; zuv = ab·zxx + (ad+bc)·zxy + cd·zyy;
-- zvv = bb·zxx + 2bd·zxy + dd·zyy.'
unfoldable pub corner_of : Steps → ℤ → Five → Corner
corner_of e z f =
    let a = e.a in
    let b = e.b in
    let c = e.c in
    let d = e.d in
    let zx = over f.p in
    let zy = over f.q in
    let zxx = over f.r in
    let zxy = over f.s in
    let zyy = over f.t in
    record {
      z = whole z;
      zu = whole a ⊠ zx ⊞ whole c ⊠ zy;
      zv = whole b ⊠ zx ⊞ whole d ⊠ zy;
      zuu = whole (a *ℤ a) ⊠ zxx ⊞ whole (pos 2 *ℤ a *ℤ c) ⊠ zxy ⊞ whole (c *ℤ c) ⊠ zyy;
      zuv = whole (a *ℤ b) ⊠ zxx ⊞ whole (a *ℤ d +ℤ b *ℤ c) ⊠ zxy ⊞ whole (c *ℤ d) ⊠ zyy;
      zvv = whole (b *ℤ b) ⊠ zxx ⊞ whole (pos 2 *ℤ b *ℤ d) ⊠ zxy ⊞ whole (d *ℤ d) ⊠ zyy;
    }

-- 'with v for u': a corner whose u is v and whose v is u.
abbrev pub exchanged : Corner → Corner
exchanged k = record { z = k.z; zu = k.zv; zv = k.zu; zuu = k.zvv; zuv = k.zuv; zvv = k.zuu }

-- 'h1 = z2-p00-p10-p20, h2 = zu2-p10-zuu1, h3 = zuu2-zuu1; p30 = 10·h1-4·h2+0.5·h3, p40 = -15·h1+7·h2-h3, p50 = 6·h1-3·h2+0.5·h3',
-- from corners 1 and 2.
unfoldable pub steep_of : Corner → Corner → Steep
steep_of k1 k2 =
    let p00 = k1.z in
    let p10 = k1.zu in
    let p20 = half ⊠ k1.zuu in
    let h1 = k2.z ⊟ p00 ⊟ p10 ⊟ p20 in
    let h2 = k2.zu ⊟ p10 ⊟ k1.zuu in
    let h3 = k2.zuu ⊟ k1.zuu in
    record {
      p30 = ten ⊠ h1 ⊟ four ⊠ h2 ⊞ half ⊠ h3;
      p40 = minus fifteen ⊠ h1 ⊞ seven ⊠ h2 ⊟ h3;
      p50 = six ⊠ h1 ⊟ three ⊠ h2 ⊞ half ⊠ h3;
    }

-- 'w = ab+cd: p41 = (5w/(aa+cc))·p50, p14 = (5w/(bb+dd))·p05.'
abbrev pub w : Steps → ℤ
w e = e.a *ℤ e.b +ℤ e.c *ℤ e.d

unfoldable pub p41_of : Steps → Float → Float
p41_of e p50 = whole (pos 5 *ℤ w e) ⊘ whole (e.a *ℤ e.a +ℤ e.c *ℤ e.c) ⊠ p50

unfoldable pub p14_of : Steps → Float → Float
p14_of e p05 = whole (pos 5 *ℤ w e) ⊘ whole (e.b *ℤ e.b +ℤ e.d *ℤ e.d) ⊠ p05

-- 'h1 = zv2-p01-p11-p41, h2 = zuv2-p11-4·p41; p21 = 3·h1-h2, p31 = -2·h1+h2', from corners 1 and 2.
unfoldable pub mixed_of : Corner → Corner → Float → Mixed
mixed_of k1 k2 p41 =
    let p01 = k1.zv in
    let p11 = k1.zuv in
    let h1 = k2.zv ⊟ p01 ⊟ p11 ⊟ p41 in
    let h2 = k2.zuv ⊟ p11 ⊟ four ⊠ p41 in
    record { p21 = three ⊠ h1 ⊟ h2; p31 = minus two ⊠ h1 ⊞ h2 }

-- 'us = a(b-a)+c(d-c), sv = b(b-a)+d(d-c)'
abbrev pub us : Steps → ℤ
us e = e.a *ℤ (e.b -ℤ e.a) +ℤ e.c *ℤ (e.d -ℤ e.c)

abbrev pub sv : Steps → ℤ
sv e = e.b *ℤ (e.b -ℤ e.a) +ℤ e.d *ℤ (e.d -ℤ e.c)

-- How far us and sv go: two products of a coordinate and twice the largest one.
abbrev pub most_sum : ℕ
most_sum = 268369924

-- 'm = 5sv·p50-(4sv+us)·p41+(4us+sv)·p14-5us·p05'
unfoldable pub m_of : ℤ → ℤ → Float → Float → Float → Float → Float
m_of us sv p50 p41 p14 p05 =
    whole (pos 5 *ℤ sv) ⊠ p50 ⊟ whole (pos 4 *ℤ sv +ℤ us) ⊠ p41 ⊞ whole (pos 4 *ℤ us +ℤ sv) ⊠ p14 ⊟ whole (pos 5 *ℤ us) ⊠ p05

-- 'g1 = -(3sv+2us), g2 = 3us+2sv'; 'p22 = (g1·h2+g2·h3-m)/(us-sv), p32 = h2-p22, p23 = h3-p22'
unfoldable pub middle_of : ℤ → ℤ → Float → Float → Float → Middle
middle_of us sv h2 h3 m =
    let g1 = whole (neg_ℤ (pos 3 *ℤ sv +ℤ pos 2 *ℤ us)) in
    let g2 = whole (pos 3 *ℤ us +ℤ pos 2 *ℤ sv) in
    let p22 = (g1 ⊠ h2 ⊞ g2 ⊠ h3 ⊟ m) ⊘ whole (us -ℤ sv) in
    record { p22 = p22; p32 = h2 ⊟ p22; p23 = h3 ⊟ p22 }

-- All of them. 'p00 = z1, p10 = zu1, p01 = zv1, p20 = 0.5·zuu1, p11 = zuv1, p02 = 0.5·zvv1'; 'Likewise p03, p04, p05 from corner 3 with
-- v for u'; 'Likewise p12, p13 from zu3, p10, p14 and zuv3'; 'h2 = 0.5·zvv2-p02-p12, h3 = 0.5·zuu3-p20-p21'.
unfoldable pub coefficients : Steps → Corner → Corner → Corner → Coefficients
coefficients e k1 k2 k3 =
    let along-u = steep_of k1 k2 in
    let along-v = steep_of (exchanged k1) (exchanged k3) in
    let p50 = along-u.p50 in
    let p05 = along-v.p50 in
    let p41 = p41_of e p50 in
    let p14 = p14_of e p05 in
    let at-2 = mixed_of k1 k2 p41 in
    let at-3 = mixed_of (exchanged k1) (exchanged k3) p14 in
    let p20 = half ⊠ k1.zuu in
    let p02 = half ⊠ k1.zvv in
    let h2 = half ⊠ k2.zvv ⊟ p02 ⊟ at-3.p21 in
    let h3 = half ⊠ k3.zuu ⊟ p20 ⊟ at-2.p21 in
    let last = middle_of (us e) (sv e) h2 h3 (m_of (us e) (sv e) p50 p41 p14 p05) in
    record {
      p00 = k1.z;
      p01 = k1.zv;
      p02 = p02;
      p03 = along-v.p30;
      p04 = along-v.p40;
      p05 = p05;
      p10 = k1.zu;
      p11 = k1.zuv;
      p12 = at-3.p21;
      p13 = at-3.p31;
      p14 = p14;
      p20 = p20;
      p21 = at-2.p21;
      p22 = last.p22;
      p23 = last.p23;
      p30 = along-u.p30;
      p31 = at-2.p31;
      p32 = last.p32;
      p40 = along-u.p40;
      p41 = p41;
      p50 = p50;
    }

-- 'u = (d·X-b·Y)/(ad-bc), v = (a·Y-c·X)/(ad-bc), X and Y taken from corner 1.'
abbrev pub twice_area : Steps → ℤ
twice_area e = e.a *ℤ e.d -ℤ e.b *ℤ e.c

unfoldable pub u_of : Steps → ℤ → ℤ → Float
u_of e X Y = whole (e.d *ℤ X -ℤ e.b *ℤ Y) ⊘ whole (twice_area e)

unfoldable pub v_of : Steps → ℤ → ℤ → Float
v_of e X Y = whole (e.a *ℤ Y -ℤ e.c *ℤ X) ⊘ whole (twice_area e)

-- 'Sum p_jk·u^j·v^k nested in v, then in u': for each power of u the sum over the powers of v, nested; then these, nested in u.
unfoldable pub nested : Coefficients → Float → Float → Float
nested p u v =
    let q0 = ((((p.p05 ⊠ v ⊞ p.p04) ⊠ v ⊞ p.p03) ⊠ v ⊞ p.p02) ⊠ v ⊞ p.p01) ⊠ v ⊞ p.p00 in
    let q1 = (((p.p14 ⊠ v ⊞ p.p13) ⊠ v ⊞ p.p12) ⊠ v ⊞ p.p11) ⊠ v ⊞ p.p10 in
    let q2 = ((p.p23 ⊠ v ⊞ p.p22) ⊠ v ⊞ p.p21) ⊠ v ⊞ p.p20 in
    let q3 = (p.p32 ⊠ v ⊞ p.p31) ⊠ v ⊞ p.p30 in
    let q4 = p.p41 ⊠ v ⊞ p.p40 in
    let q5 = p.p50 in
    ((((q5 ⊠ u ⊞ q4) ⊠ u ⊞ q3) ⊠ u ⊞ q2) ⊠ u ⊞ q1) ⊠ u ⊞ q0

-- The height at the step (X, Y) from corner 1.
abbrev pub quintic : Steps → Corner → Corner → Corner → ℤ → ℤ → Float
quintic e k1 k2 k3 X Y = nested (coefficients e k1 k2 k3) (u_of e X Y) (v_of e X Y)
