-- Two levels over one triangle: the higher one has no less of it below (`portion-rises`). Assumes nothing.
--
-- What is below the lower level is below the higher. Where both cut off the same corner, the higher one's spots are farther from it on both sides
-- if it is below, and nearer if it is not. Where the lower cuts off v, which is below, and the higher another corner, which is not, the spots
-- on the side between the two leave both corners room. Otherwise the lower level has nothing below, or the higher has all.
use mathlib.Core.Path.{◌≡◌, sym, ◌∙◌}
use mathlib.Core.Bool.{Bool, true, false, true≢false}
use mathlib.Core.List.{List}
use Prim.Native.Nat.{ℕ, ◌+◌, ◌*◌, ◌-◌, ◌≤◌, ◌<◌}
use native.Mathlib.Nat.{mul-le-mul, mul-le-mul_left}
use native.Mathlib.Omega.{arith}
use lib.IntN.{ℤ}
use lib.Signed.{◌≤ℤ◌}
use Rattle.sweep.specs.Sweep.{Three}
use Rattle.survey.specs.Survey.{Survey, count}
use Rattle.hull.specs.MeshOf.{OnStations}
use Rattle.spots.specs.Lines.{is_below}
use Rattle.ground.proofs.CutLaws.{Named, from_a, from_b, from_c, named_on, Turned, same, next, before, named-twice}
use Rattle.ground.proofs.ShareLaws.{share_of, below-rises, share-rises}
use Rattle.parcels.proofs.PartLaws.{Portion, none, all, one, two, portion_of, portion_is, portion-le, unlike, unlike_back, on_first, on_last, from_le, to_le}

-- Two corners that share a side leave each other room: they have p and q of its 128ths.
room : (p q : ℕ) {x y : ℕ} → x ≤ 128 → y ≤ 128 → p + q ≤ 128 → p * x ≤ 16384 - q * y
room p q h k l = omega (arith, mul-le-mul_left p h, mul-le-mul_left q k)

-- The corners of a triangle, from whichever they are named, as its own are.
corners_as : {t : Three ℕ} {v w u : ℕ} (f : ℕ → Bool) {b : Bool} → Named t v w u
    → f t.a ≡ b → f t.b ≡ b → f t.c ≡ b → (f v ≡ b) × (f w ≡ b) × (f u ≡ b)
corners_as f from_a x y z = (x, y, z)
corners_as f from_b x y z = (y, z, x)
corners_as f from_c x y z = (z, x, y)

module _ (s : Survey) (slopes : List ℤ) (style : ℕ) (lower higher : ℤ) (order : lower ≤ℤ higher) (t : Three ℕ) (on : OnStations s t) where
  abbrev low : ℕ → ℕ → ℕ
  low = share_of s slopes style lower

  abbrev high : ℕ → ℕ → ℕ
  high = share_of s slopes style higher

  abbrev L : ℕ → Bool
  L k = is_below s lower k

  abbrev H : ℕ → Bool
  H k = is_below s higher k

  -- No corner is below the lower level and not below the higher.
  never : (k : ℕ) → k < count s → L k ≡ true → H k ≡ false → ⊥
  never k h e f = true≢false (sym (below-rises s slopes style order k h e) ∙ f)

  farther : (i j : ℕ) → i < count s → j < count s → L i ≡ true → H j ≡ false → low i j ≤ high i j
  farther i j hi hj e f = share-rises s slopes style order hi hj e f

  module _ {v w u : ℕ} (k : Named t v w u) where
    v_in : v < count s
    v_in = (named_on s on k).0

    w_in : w < count s
    w_in = (named_on s on k).1

    u_in : u < count s
    u_in = (named_on s on k).2

    -- The lower level has the corner v below alone, and the higher too, or all corners but one.
    one_one : {x y z : ℕ} → Turned v w u x y z → L v ≡ true → H y ≡ false → H z ≡ false → low v w * low v u ≤ high x y * high x z
    one_one same e g h = mul-le-mul (farther v w v_in w_in e g) (farther v u v_in u_in e h)
    one_one next e g h = absurd (never v v_in e h)
    one_one before e g h = absurd (never v v_in e g)

    one_two : {x y z : ℕ} → Turned v w u x y z → Named t x y z → L v ≡ true → L w ≡ false → L u ≡ false → H x ≡ false → H y ≡ true → H z ≡ true
        → low v w * low v u ≤ 16384 - high x y * high x z
    one_two same l e f g ex ey ez = absurd (never v v_in e ex)
    one_two next l e f g ex ey ez =
        let back = on_last s slopes style higher on l (unlike_back true ex ey) (unlike_back true ex ez) in
        let r =
        room (low v w) (high w v) (to_le (on_last s slopes style lower on k (unlike true e f) (unlike true e g)))
        (from_le (on_first s slopes style higher on l (unlike_back true ex ey) (unlike_back true ex ez)))
        (omega (arith, back.all, farther v w v_in w_in e ex)) in
        omega (arith, r)
    one_two before l e f g ex ey ez =
        let forth = on_first s slopes style higher on l (unlike_back true ex ey) (unlike_back true ex ez) in
        let r =
        room (low v u) (high u v) (from_le (on_first s slopes style lower on k (unlike true e f) (unlike true e g)))
        (to_le (on_last s slopes style higher on l (unlike_back true ex ey) (unlike_back true ex ez)))
        (omega (arith, forth.all, farther v u v_in u_in e ex)) in
        omega (arith, r)

    -- The lower level has all corners below but v: the higher one has more than one below, and if it has not all, all but v too.
    two_one : {x y z : ℕ} → Turned v w u x y z → L w ≡ true → L u ≡ true → H y ≡ false → H z ≡ false → ⊥
    two_one same f g ey ez = never w w_in f ey
    two_one next f g ey ez = never u u_in g ey
    two_one before f g ey ez = never w w_in f ez

    two-two : {x y z : ℕ} → Turned v w u x y z → Named t x y z → L v ≡ false → L w ≡ true → L u ≡ true → H x ≡ false → H y ≡ true → H z ≡ true
        → 16384 - low v w * low v u ≤ 16384 - high x y * high x z
    two-two same l e f g ex ey ez =
        let low-w = on_first s slopes style lower on k (unlike_back true e f) (unlike_back true e g) in
        let low-u = on_last s slopes style lower on k (unlike_back true e f) (unlike_back true e g) in
        let high-w = on_first s slopes style higher on l (unlike_back true ex ey) (unlike_back true ex ez) in
        let high-u = on_last s slopes style higher on l (unlike_back true ex ey) (unlike_back true ex ez) in
        let nearer-w : high v w ≤ low v w = omega (arith, low-w.all, high-w.all, farther w v w_in v_in f ex) in
        let nearer-u : high v u ≤ low v u = omega (arith, low-u.all, high-u.all, farther u v u_in v_in g ex) in
        omega (arith, mul-le-mul nearer-w nearer-u)
    two-two next l e f g ex ey ez = absurd (never w w_in f ex)
    two-two before l e f g ex ey ez = absurd (never u u_in g ex)

  rises : {m n : ℕ} → Portion s slopes style lower t true m → Portion s slopes style higher t true n → m ≤ n
  rises (none e f g) q = omega arith
  rises (all e f g) (none x y z) = absurd (never t.a on.on_a e x)
  rises (all e f g) (all x y z) = omega arith
  rises (all e f g) (one l x y z) = absurd (never _ (w_in l) (corners_as L l e f g).1 y)
  rises (all e f g) (two l x y z) = absurd (never _ (v_in l) (corners_as L l e f g).0 x)
  rises (one k e f g) (none x y z) = absurd (never _ (v_in k) e (corners_as H k x y z).0)
  rises (one k e f g) (all x y z) = portion-le s slopes style lower on (one k e f g)
  rises (one k e f g) (one l x y z) = one_one k (named-twice k l) e y z
  rises (one k e f g) (two l x y z) = one_two k (named-twice k l) l e f g x y z
  rises (two k e f g) (none x y z) = absurd (never _ (w_in k) f (corners_as H k x y z).1)
  rises (two k e f g) (all x y z) = omega arith
  rises (two k e f g) (one l x y z) = absurd (two_one k (named-twice k l) f g y z)
  rises (two k e f g) (two l x y z) = two-two k (named-twice k l) l e f g x y z

  pub portion-rises : portion_of s slopes style lower t ≤ portion_of s slopes style higher t
  portion-rises = rises (portion_is s slopes style lower t) (portion_is s slopes style higher t)
