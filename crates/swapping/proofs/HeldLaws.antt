-- The rooms of the code hold a mesh: what their keys tell is what may be swapped in it (`told`), the lowest key is the lowest side
-- (`lower_is`, `higher_is`, `none_is_left`), and the swap in the rooms is the swap in the mesh (`swap-held`). Assumes nothing.
use mathlib.Core.Path.{◌≡◌, refl, sym, ap, ap₂, ◌∙◌, subst, subst₂, subst₃}
use mathlib.Core.Bool.{Bool, true, false, true≢false, cond, ◌&&◌}
use mathlib.Core.List.{List, map}
use mathlib.Core.Logic.{◌⊎◌, inl, inr}
use mathlib.Core.Option.{Option, none, some as found}
use Prim.Native.Nat.{ℕ, ◌+◌, ◌*◌, ◌<◌}
use native.Mathlib.Omega.{arith}
use native.Mathlib.Decide.{ℕ_discrete, dec_lt}
use borrow.Author.Tests.{eq-eqb, ne_eqb, lt-ltb, le-ltb, ltb-true}
use lib.Dec.{eqb, ltb}
use lib.IntN.{pos}
use lib.ListN.{length, get_or, set, length-map, length-set}
use lib.Seq.{get_or-set_same, get_or-set_other}
use lib.Signed.{lt_z, ◌<ℤ◌}
use Rattle.lists.proofs.LowestLaws.{lowest_is, some-true, some-false}
use Rattle.lists.proofs.TestLaws.{and_left, and_right}
use Rattle.survey.specs.Fit.{Fit}
use Rattle.survey.specs.Survey.{Survey, count, place_of}
use Rattle.sweep.specs.Sweep.{Three, tri}
use Rattle.sweep.proofs.EntryLaws.{at_in}
use Rattle.trace.specs.Mesh.{Has}
use Rattle.trace.specs.Side.{◌⟶◌, left_corner}
use Rattle.trace.proofs.MeshLaws.{left_has}
use Rattle.hull.specs.MeshOf.{MeshOf}
use Rattle.circle.specs.Circle.{circle}
use Rattle.neighbours.specs.Half.{after, before, corner_in}
use Rattle.neighbours.proofs.HalfLaws.{after-before, after-after, after-within, before-within}
use Rattle.tops.specs.Tops.{Least}
use Rattle.swapping.specs.Halves.{put, at, Twinned, swap_corners, swap_twins}
use Rattle.swapping.specs.Rooms.{twin_in, may_swap_in, no_key, key_in, corners_after, twins_after, renew, renew_side, renew_triangle, After}
use Rattle.fatter.specs.Swap.{is_far_inside, may_swap, swaps_at, lower, higher, is_left, exchange, swap, swap_lowest}
use Rattle.swapping.proofs.DrawnLaws.{Drawn, half_has, half-apart, swap-drawn}
use Rattle.fatter.proofs.EndLaws.{Swappable, swappable, swap_is, swap-mesh}
use Rattle.fatter.proofs.ExchangeLaws.{Turned, as_it_is, by_one, by_two, turned_in}
use Rattle.swapping.proofs.HalfLaws.{Third, first, second, third, third_of, after_one, Apart, swap-twinned}
use Rattle.swapping.proofs.HalfLaws as halves
use Rattle.whole.proofs.Bridge.{test-true}
use Rattle.hull.proofs.SoundLaws.{has_found, has_stations}

-- ---- half-sides that agree below m
pub drawn_same : (C D : ℕ → ℕ) (ts : List (Three ℕ)) → ((h : ℕ) → h < 3 * length ts → C h ≡ D h) → Drawn C ts → Drawn D ts
drawn_same C D ts same d =
    record { each = λ k l. subst₃ (Turned (at ts k)) (same (3 * k) (omega arith)) (same (3 * k + 1) (omega arith)) (same (3 * k + 2) (omega arith)) (d.each k l) }

pub twinned_same : (C D W U : ℕ → ℕ) (t : ℕ) → ((h : ℕ) → h < 3 * t → C h ≡ D h) → ((h : ℕ) → h < 3 * t → W h ≡ U h) → Twinned C W (3 * t) → Twinned D U (3 * t)
twinned_same C D W U t same sameW tw =
    record {
      found = λ h g lh lg p q.
          sym (sameW h lh) ∙ tw.found h g lh lg (same g lg ∙ p ∙ sym (same (after h) (after-within t h lh))) (same (after g) (after-within t g lg) ∙ q ∙ sym (same h lh));
      from = λ h l b.
          let n : W h < 3 * t = omega (arith, sameW h l) in
          ap D (sym (sameW h l)) ∙ sym (same (W h) n) ∙ tw.from h l n ∙ same (after h) (after-within t h l);
      to = λ h l b.
          let n : W h < 3 * t = omega (arith, sameW h l) in
          ap (λ x. D (after x)) (sym (sameW h l)) ∙ sym (same (after (W h)) (after-within t (W h) n)) ∙ tw.to h l n ∙ same h l;
    }

-- ---- stores
-- What is read after a store.
set-read : (l : List ℕ) (i v g d : ℕ) → g < length l → get_or (set l i v) g d ≡ put i v (λ h. get_or l h d) g
unfolding put
set-read l i v g d b = go (ℕ_discrete g i)
  where
    go : Dec (g ≡ i) → get_or (set l i v) g d ≡ cond (eqb g i) v (get_or l g d)
    go (yes e) = rw (eq-eqb g i e) (ap (λ x. get_or (set l i v) x d) e ∙ get_or-set_same l i v d (omega (arith, e)))
    go (no n) = rw (ne_eqb g i n) (get_or-set_other l i g v d n)

put_under : (i v : ℕ) (C D : ℕ → ℕ) (g : ℕ) → C g ≡ D g → put i v C g ≡ put i v D g
unfolding put
put_under i v C D g e = ap (cond (eqb g i) v) e

-- A store on top of others.
set_on : (l : List ℕ) (i v g d : ℕ) (C : ℕ → ℕ) → g < length l → get_or l g d ≡ C g → get_or (set l i v) g d ≡ put i v C g
set_on l i v g d C b e = set-read l i v g d b ∙ put_under i v (λ h. get_or l h d) C g e

pub corners-read : (c : List ℕ) (e f g : ℕ) → g < length c → corner_in (corners_after c e f) g ≡ swap_corners e f (corner_in c) g
unfolding corners_after swap_corners
corners-read c e f g b =
    set_on (set c (after f) (corner_in c (before e))) (after e) (corner_in c (before f)) g 0 (put (after f) (corner_in c (before e)) (corner_in c)) (omega (arith, length-set c (after f) (corner_in c (before e))))
    (set-read c (after f) (corner_in c (before e)) g 0 b)

-- Corners elsewhere stay, even past the end.
pub corners-else : (c : List ℕ) (e f g : ℕ) → (g ≡ after e → ⊥) → (g ≡ after f → ⊥) → corner_in (corners_after c e f) g ≡ corner_in c g
unfolding corners_after
corners-else c e f g p q = get_or-set_other (set c (after f) (corner_in c (before e))) (after e) g (corner_in c (before f)) 0 p ∙ get_or-set_other c (after f) g (corner_in c (before e)) 0 q

pub corners-length : (c : List ℕ) (e f : ℕ) → length (corners_after c e f) ≡ length c
unfolding corners_after
corners-length c e f = length-set (set c (after f) (corner_in c (before e))) (after e) (corner_in c (before f)) ∙ length-set c (after f) (corner_in c (before e))

pub twins-length : (w : List ℕ) (e f : ℕ) → length (twins_after w e f) ≡ length w
unfolding twins_after
twins-length w e f =
    let a = twin_in w (after f) in
    let b = twin_in w (after e) in
    let w1 = set w f b in
    let w2 = set w1 e a in
    let w3 = set w2 b f in
    let w4 = set w3 a e in
    length-set (set w4 (after f) (after e)) (after e) (after f) ∙ length-set w4 (after f) (after e) ∙ length-set w3 a e ∙ length-set w2 b f ∙ length-set w1 e a ∙ length-set w f b

pub twins-read : (w : List ℕ) (e f g : ℕ) → g < length w → twin_in (twins_after w e f) g ≡ swap_twins e f (twin_in w) g
unfolding twins_after swap_twins
twins-read w e f g l0 =
    let a = twin_in w (after f) in
    let b = twin_in w (after e) in
    let w1 = set w f b in
    let w2 = set w1 e a in
    let w3 = set w2 b f in
    let w4 = set w3 a e in
    let w5 = set w4 (after f) (after e) in
    let l1 : g < length w1 = omega (arith, length-set w f b) in
    let l2 : g < length w2 = omega (arith, length-set w1 e a) in
    let l3 : g < length w3 = omega (arith, length-set w2 b f) in
    let l4 : g < length w4 = omega (arith, length-set w3 a e) in
    let l5 : g < length w5 = omega (arith, length-set w4 (after f) (after e)) in
    let c1 = put f b (twin_in w) in
    let c2 = put e a c1 in
    let c3 = put b f c2 in
    let c4 = put a e c3 in
    let c5 = put (after f) (after e) c4 in
    set_on w5 (after e) (after f) g 32767 c5 l5
    (set_on w4 (after f) (after e) g 32767 c4 l4 (set_on w3 a e g 32767 c3 l3 (set_on w2 b f g 32767 c2 l2 (set_on w1 e a g 32767 c1 l1 (set-read w f b g 32767 l0)))))

-- ---- keys told anew
module _ (key : ℕ → ℕ) (g : ℕ) where
  abbrev Right : List ℕ → Type 0
  Right ks = get_or ks g 0 ≡ key g

  renew-right : (h : ℕ) (ks : List ℕ) → g < length ks → ((g ≡ h → ⊥) → Right ks) → Right (renew key h ks)
  renew-right h ks l q = go (ℕ_discrete g h)
    where
      go : Dec (g ≡ h) → Right (renew key h ks)
      go (yes e) = ap (λ x. get_or (set ks h (key h)) x 0) e ∙ get_or-set_same ks h (key h) 0 (omega (arith, e)) ∙ ap key (sym e)
      go (no n) = get_or-set_other ks h g (key h) 0 n ∙ q n

  side_right : (w : List ℕ) (h : ℕ) (ks : List ℕ) → g < length ks → ((g ≡ h → ⊥) → (g ≡ twin_in w h → ⊥) → Right ks) → Right (renew_side key w h ks)
  unfolding renew_side
  side_right w h ks l q =
      renew-right (twin_in w h) (renew key h ks) (omega (arith, length-set ks h (key h))) (λ n. renew-right h ks l (λ m. q m n))

pub side-length : (key : ℕ → ℕ) (w : List ℕ) (h : ℕ) (ks : List ℕ) → length (renew_side key w h ks) ≡ length ks
unfolding renew_side
side-length key w h ks = length-set (set ks h (key h)) (twin_in w h) (key (twin_in w h)) ∙ length-set ks h (key h)

pub triangle-length : (key : ℕ → ℕ) (w : List ℕ) (h : ℕ) (ks : List ℕ) → length (renew_triangle key w h ks) ≡ length ks
unfolding renew_triangle
triangle-length key w h ks =
    side-length key w (before h) (renew_side key w (after h) (renew_side key w h ks)) ∙ side-length key w (after h) (renew_side key w h ks) ∙ side-length key w h ks

-- A half-side that is none of a triangle, nor a twin of one of those.
pub record Off (w : List ℕ) (h g : ℕ) : Type 0 where
  pub own : g ≡ h → ⊥
  pub own-after : g ≡ after h → ⊥
  pub own_before : g ≡ before h → ⊥
  pub twin : g ≡ twin_in w h → ⊥
  pub twin-after : g ≡ twin_in w (after h) → ⊥
  pub twin-before : g ≡ twin_in w (before h) → ⊥

triangle-right : (key : ℕ → ℕ) (g : ℕ) (w : List ℕ) (h : ℕ) (ks : List ℕ) → g < length ks → (Off w h g → get_or ks g 0 ≡ key g)
    → get_or (renew_triangle key w h ks) g 0 ≡ key g
unfolding renew_triangle
triangle-right key g w h ks l q =
    let k1 = renew_side key w h ks in
    let k2 = renew_side key w (after h) k1 in
    let l1 : g < length k1 = omega (arith, side-length key w h ks) in
    let l2 : g < length k2 = omega (arith, side-length key w (after h) k1) in
    side_right key g w (before h) k2 l2
    (λ a b. side_right key g w (after h) k1 l1
    (λ c d. side_right key g w h ks l (λ x y. q (record { own = x; own-after = c; own_before = a; twin = y; twin-after = d; twin-before = b }))))

-- ---- the rooms hold a mesh
pub record Held (s : Survey) (ts : List (Three ℕ)) (c w ks : List ℕ) : Type 0 where
  pub mesh : MeshOf s ts
  pub drawn : Drawn (corner_in c) ts
  pub twinned : Twinned (corner_in c) (twin_in w) (3 * length ts)
  pub corners-count : length c ≡ 3 * length ts
  pub twins-count : length w ≡ 3 * length ts
  pub keys-count : length ks ≡ 3 * length ts
  pub keys-right : (h : ℕ) → h < 3 * length ts → get_or ks h 0 ≡ key_in (place_of s) c w h

-- The same side from two lists of corners of one triangle.
same_turn : {t : Three ℕ} {a b x p q r : ℕ} → Turned t a b x → Turned t p q r
    → ((a ≡ p) × (b ≡ q) × (x ≡ r)) ⊎ (((a ≡ q) × (b ≡ r) × (x ≡ p)) ⊎ ((a ≡ r) × (b ≡ p) × (x ≡ q)))
same_turn (as_it_is e) (as_it_is f) = let g = sym e ∙ f in inl (ap (λ t. t.a) g, ap (λ t. t.b) g, ap (λ t. t.c) g)
same_turn (as_it_is e) (by_one f) = let g = sym e ∙ f in inr (inl (ap (λ t. t.a) g, ap (λ t. t.b) g, ap (λ t. t.c) g))
same_turn (as_it_is e) (by_two f) = let g = sym e ∙ f in inr (inr (ap (λ t. t.a) g, ap (λ t. t.b) g, ap (λ t. t.c) g))
same_turn (by_one e) (as_it_is f) = let g = sym e ∙ f in inr (inr (ap (λ t. t.c) g, ap (λ t. t.a) g, ap (λ t. t.b) g))
same_turn (by_one e) (by_one f) = let g = sym e ∙ f in inl (ap (λ t. t.c) g, ap (λ t. t.a) g, ap (λ t. t.b) g)
same_turn (by_one e) (by_two f) = let g = sym e ∙ f in inr (inl (ap (λ t. t.c) g, ap (λ t. t.a) g, ap (λ t. t.b) g))
same_turn (by_two e) (as_it_is f) = let g = sym e ∙ f in inr (inl (ap (λ t. t.b) g, ap (λ t. t.c) g, ap (λ t. t.a) g))
same_turn (by_two e) (by_one f) = let g = sym e ∙ f in inr (inr (ap (λ t. t.b) g, ap (λ t. t.c) g, ap (λ t. t.a) g))
same_turn (by_two e) (by_two f) = let g = sym e ∙ f in inl (ap (λ t. t.b) g, ap (λ t. t.c) g, ap (λ t. t.a) g)

-- A half-side from a to b.
pub record Runs (C : ℕ → ℕ) (m a b : ℕ) : Type 0 where
  pub half : ℕ
  pub below : half < m
  pub starts : C half ≡ a
  pub ends : C (after half) ≡ b

-- A triangle's side has a half-side.
pub has_half : (C : ℕ → ℕ) (ts : List (Three ℕ)) → Drawn C ts → {a b x : ℕ} → Has a b x ts → Runs C (3 * length ts) a b
has_half C ts d {a} {b} {x} h =
    let q = turned_in h in
    let z = at_in (tri 0 0 0) q.1 in
    go z.0 z.1 (same_turn q.2 (subst (λ t. Turned t (C (3 * z.0)) (C (3 * z.0 + 1)) (C (3 * z.0 + 2))) z.2 (d.each z.0 z.1)))
    (third_of (3 * z.0)) (third_of (3 * z.0 + 1)) (third_of (3 * z.0 + 2))
  where
    go : (k : ℕ) → k < length ts
        → ((a ≡ C (3 * k)) × (b ≡ C (3 * k + 1)) × (x ≡ C (3 * k + 2))) ⊎ (((a ≡ C (3 * k + 1)) × (b ≡ C (3 * k + 2)) × (x ≡ C (3 * k))) ⊎ ((a ≡ C (3 * k + 2)) × (b ≡ C (3 * k)) × (x ≡ C (3 * k + 1))))
        → Third (3 * k) → Third (3 * k + 1) → Third (3 * k + 2) → Runs C (3 * length ts) a b
    go k l (inl e) (first n u v y) _ _ = record { half = 3 * k; below = omega arith; starts = sym e.0; ends = ap C (omega arith) ∙ sym e.1 }
    go k l (inl e) (second n u v y) _ _ = absurd (omega arith)
    go k l (inl e) (third n u v y) _ _ = absurd (omega arith)
    go k l (inr (inl e)) _ (first n u v y) _ = absurd (omega arith)
    go k l (inr (inl e)) _ (second n u v y) _ = record { half = 3 * k + 1; below = omega arith; starts = sym e.0; ends = ap C (omega arith) ∙ sym e.1 }
    go k l (inr (inl e)) _ (third n u v y) _ = absurd (omega arith)
    go k l (inr (inr e)) _ _ (first n u v y) = absurd (omega arith)
    go k l (inr (inr e)) _ _ (second n u v y) = absurd (omega arith)
    go k l (inr (inr e)) _ _ (third n u v y) = record { half = 3 * k + 2; below = omega arith; starts = sym e.0; ends = ap C (omega arith) ∙ sym e.1 }

module _ (s : Survey) (fit : Fit s) (ts : List (Three ℕ)) (c w ks : List ℕ) (r : Held s ts c w ks) where
  abbrev m : ℕ
  m = 3 * length ts

  abbrev C : ℕ → ℕ
  C = corner_in c

  abbrev W : ℕ → ℕ
  W = twin_in w

  -- ---- the corners beside a half-side
  pub left-of : (h : ℕ) → h < m → left_corner ts (C h ⟶ C (after h)) ≡ found (C (before h))
  left-of h l = has_found s ts r.mesh (half_has C ts r.drawn h l)

  pub right_of : (h : ℕ) → h < m → W h < m → left_corner ts (C (after h) ⟶ C h) ≡ found (C (before (W h)))
  right_of h l k =
      has_found s ts r.mesh
      (subst₂ (λ a b. Has a b (C (before (W h))) ts) (r.twinned.from h l k) (r.twinned.to h l k) (half_has C ts r.drawn (W h) k))

  -- Without a twin nothing is there.
  none_right : (h : ℕ) → h < m → (W h < m → ⊥) → left_corner ts (C (after h) ⟶ C h) ≡ none
  none_right h l n = go (left_corner ts (C (after h) ⟶ C h)) refl
    where
      go : (x : Option ℕ) → left_corner ts (C (after h) ⟶ C h) ≡ x → x ≡ none
      go none e = refl
      go (found x) e =
          let g = has_half C ts r.drawn (left_has (C (after h)) (C h) x ts e) in
          absurd (n (subst (λ y. y < m) (sym (r.twinned.found h g.half l g.below g.starts g.ends)) g.below))

  -- What the code tells of a half-side is what may be swapped.
  pub told : (h : ℕ) → h < m → may_swap_in (place_of s) c w h ≡ may_swap s ts (C h) (C (after h))
  unfolding may_swap_in may_swap
  told h l = go (dec_lt (W h) m)
    where
      go : Dec (W h < m)
          → (ltb (C h) (C (after h)) && (ltb (W h) (length c) && lt_z (pos 0) (circle (place_of s (C h)) (place_of s (C (after h))) (place_of s (C (before h))) (place_of s (C (before (W h)))))))
          ≡ (ltb (C h) (C (after h)) && is_far_inside s (C h) (C (after h)) (left_corner ts (C h ⟶ C (after h))) (left_corner ts (C (after h) ⟶ C h)))
      go (yes k) = rw (left-of h l, right_of h l k, lt-ltb (W h) (length c) (omega (arith, r.corners-count)))
      go (no n) = rw (left-of h l, none_right h l n, le-ltb (W h) (length c) (omega (arith, r.corners-count)))

  -- Stations are small.
  small : (h : ℕ) → h < m → (C h < count s) × (C (after h) < count s) × (C h < 65535) × (C (after h) < 65535)
  small h l =
      let q = has_stations s ts r.mesh (half_has C ts r.drawn h l) in
      (q.0, q.1, omega (arith, q.0, fit.most), omega (arith, q.1, fit.most))

  key-if : (h : ℕ) → h < m → may_swap_in (place_of s) c w h ≡ true → get_or ks h 0 ≡ C h * 65536 + C (after h)
  unfolding key_in
  key-if h l e = r.keys-right h l ∙ ap (λ b. cond b (C h * 65536 + C (after h)) no_key) e

  key_not : (h : ℕ) → h < m → may_swap_in (place_of s) c w h ≡ false → get_or ks h 0 ≡ no_key
  unfolding key_in
  key_not h l e = r.keys-right h l ∙ ap (λ b. cond b (C h * 65536 + C (after h)) no_key) e

  -- A side that may be swapped stands among the keys.
  key_of : (i j : ℕ) → may_swap s ts i j ≡ true → (g : ℕ) × (g < m) × (get_or ks g 0 ≡ i * 65536 + j) × (i < 65535) × (j < 65535)
  key_of i j e =
      let q = swappable s ts i j e in
      let g = has_half C ts r.drawn (left_has i j q.l ts q.on) in
      let n = small g.half g.below in
      let k = key-if g.half g.below (told g.half g.below ∙ ap₂ (may_swap s ts) g.starts g.ends ∙ e) in
      (g.half, g.below, k ∙ ap₂ (λ a b. a * 65536 + b) g.starts g.ends, omega (arith, g.starts, n.2), omega (arith, g.ends, n.3))

  -- ---- the lowest key
  module _ (e : ℕ) (least : Least ks e) where
    e-below : e < m
    e-below = omega (arith, least.within, r.keys-count)

    -- No key: nothing is left.
    pub none_is_left : get_or ks e 0 ≡ no_key → is_left s ts ≡ false
    unfolding is_left swaps_at
    none_is_left k = some-false (swaps_at s ts) (count s) (λ i l. some-false (may_swap s ts i) (count s) (λ j n. no i j (may_swap s ts i j) refl))
      where
        no : (i j : ℕ) (b : Bool) → may_swap s ts i j ≡ b → b ≡ false
        no i j false q = refl
        no i j true q =
            let z = key_of i j q in
            absurd (omega (arith, k, z.2, z.3, z.4, least.least z.0 (omega (arith, z.1, r.keys-count))))

    -- A key: its side may be swapped, and is the lowest.
    pub may-e : (get_or ks e 0 ≡ no_key → ⊥) → may_swap_in (place_of s) c w e ≡ true
    may-e n = go (may_swap_in (place_of s) c w e) refl
      where
        go : (b : Bool) → may_swap_in (place_of s) c w e ≡ b → b ≡ true
        go true q = refl
        go false q = absurd (n (key_not e e-below q))

    module _ (some : get_or ks e 0 ≡ no_key → ⊥) where
      may : may_swap s ts (C e) (C (after e)) ≡ true
      may = sym (told e e-below) ∙ may-e some

      -- No side before it may be swapped.
      earlier : (i j : ℕ) → i * 65536 + j < C e * 65536 + C (after e) → may_swap s ts i j ≡ false
      earlier i j l = go (may_swap s ts i j) refl
        where
          go : (b : Bool) → may_swap s ts i j ≡ b → b ≡ false
          go false q = refl
          go true q =
              let z = key_of i j q in
              absurd (omega (arith, l, z.2, key-if e e-below (may-e some), least.least z.0 (omega (arith, z.1, r.keys-count))))

      -- Higher stations are below 65535 where a side may be swapped.
      at_all : (i j : ℕ) → i < C e → may_swap s ts i j ≡ false
      at_all i j l = go (may_swap s ts i j) refl
        where
          go : (b : Bool) → may_swap s ts i j ≡ b → b ≡ false
          go false q = refl
          go true q = let z = key_of i j q in absurd (true≢false (sym q ∙ earlier i j (omega (arith, l, z.3, z.4))))

      swaps-e : swaps_at s ts (C e) ≡ true
      unfolding swaps_at
      swaps-e = some-true (may_swap s ts (C e)) (count s) (C (after e)) (small e e-below).1 may

      pub is-left : is_left s ts ≡ true
      unfolding is_left
      is-left = some-true (swaps_at s ts) (count s) (C e) (small e e-below).0 swaps-e

      pub lower_is : lower s ts ≡ C e
      unfolding lower swaps_at
      lower_is = lowest_is (swaps_at s ts) (count s) (C e) (small e e-below).0 swaps-e (λ i l. some-false (may_swap s ts i) (count s) (λ j n. at_all i j l))

      pub higher_is : higher s ts ≡ C (after e)
      unfolding higher
      higher_is =
          rw lower_is (lowest_is (may_swap s ts (C e)) (count s) (C (after e)) (small e e-below).1 may (λ j l. earlier (C e) j (omega (arith, l))))

      pub swap-lowest : swap_lowest s ts ≡ swap ts (C e) (C (after e))
      unfolding swap_lowest
      swap-lowest = ap₂ (swap ts) lower_is higher_is

  -- ---- one swap
  module _ (e : ℕ) (le : e < m) (may : may_swap_in (place_of s) c w e ≡ true) where
    abbrev f : ℕ
    f = W e

    tests : (ltb (W e) (length c) && lt_z (pos 0) (circle (place_of s (C e)) (place_of s (C (after e))) (place_of s (C (before e))) (place_of s (C (before (W e)))))) ≡ true
    unfolding may_swap_in
    tests = and_right (ltb (C e) (C (after e))) _ may

    rises : C e < C (after e)
    unfolding may_swap_in
    rises = ltb-true (C e) (C (after e)) (and_left (ltb (C e) (C (after e))) _ may)

    pub lf : f < m
    lf = omega (arith, ltb-true (W e) (length c) (and_left (ltb (W e) (length c)) _ tests), r.corners-count)

    far : pos 0 <ℤ circle (place_of s (C e)) (place_of s (C (after e))) (place_of s (C (before e))) (place_of s (C (before f)))
    far = test-true (and_right (ltb (W e) (length c)) _ tests)

    side : Swappable s ts (C e) (C (after e))
    side = record { l = C (before e); r = C (before f); rises = rises; on = left-of e le; back = right_of e le lf; far = far }

    apart : Apart C m e f
    apart = half-apart C ts r.drawn s r.mesh e f le lf (r.twinned.from e le lf) (r.twinned.to e le lf) far

    module _ (cs ws us : List ℕ) (a : After (place_of s) e c w ks cs ws us) where
      in_corners : (h : ℕ) → h < m → swap_corners e f C h ≡ corner_in cs h
      in_corners h l = sym (ap (λ x. corner_in x h) a.corners-are ∙ corners-read c e f h (omega (arith, r.corners-count)))

      in_twins : (h : ℕ) → h < m → swap_twins e f W h ≡ twin_in ws h
      in_twins h l = sym (ap (λ x. twin_in x h) a.twins-are ∙ twins-read w e f h (omega (arith, r.twins-count)))

      twinned-after : Twinned (corner_in cs) (twin_in ws) m
      twinned-after =
          twinned_same (swap_corners e f C) (corner_in cs) (swap_twins e f W) (twin_in ws) (length ts) in_corners in_twins
          (swap-twinned C (length ts) e f apart W r.twinned)

      -- A half-side whose twin is h is the twin of h.
      twin_back : (g h : ℕ) → g < m → h < m → twin_in ws g ≡ h → g ≡ twin_in ws h
      twin_back g h lg lh q =
          let n : twin_in ws g < m = omega (arith, q, lh) in
          sym
          (twinned-after.found h g lh lg (sym (twinned-after.to g lg n) ∙ ap (λ x. corner_in cs (after x)) q)
          (sym (twinned-after.from g lg n) ∙ ap (corner_in cs) q))

      -- A key that is not told anew stays.
      key-kept : (g : ℕ) → g < m → Off ws e g → Off ws f g → key_in (place_of s) cs ws g ≡ key_in (place_of s) c w g
      unfolding key_in may_swap_in
      key-kept g l p q =
          λ n. cond (ltb (at_g n) (at_after n) && (ltb (twin-g n) (long n) && lt_z (pos 0) (circle (place_of s (at_g n)) (place_of s (at_after n)) (place_of s (at_before n)) (place_of s (at_far n)))))
          (at_g n * 65536 + at_after n) no_key
        where
          corner-at : (h : ℕ) → (h ≡ after e → ⊥) → (h ≡ after f → ⊥) → corner_in cs h ≡ C h
          corner-at h x y = ap (λ z. corner_in z h) a.corners-are ∙ corners-else c e f h x y

          -- Two half-sides on is the one before.
          before_is : (h k : ℕ) → before h ≡ after k → h ≡ before k
          before_is h k x = after_one h (before k) (after_one (after h) k (after-after h ∙ x) ∙ sym (after-before k))

          at_g : corner_in cs g ≡ C g
          at_g = corner-at g p.own-after q.own-after

          at_after : corner_in cs (after g) ≡ C (after g)
          at_after = corner-at (after g) (λ x. p.own (after_one g e x)) (λ x. q.own (after_one g f x))

          at_before : corner_in cs (before g) ≡ C (before g)
          at_before = corner-at (before g) (λ x. p.own_before (before_is g e x)) (λ x. q.own_before (before_is g f x))

          twin-g : twin_in ws g ≡ W g
          twin-g =
              sym (in_twins g l)
              ∙ halves.twin-else C (length ts) e f apart W r.twinned g p.own q.own p.own-after q.own-after
              (λ x. p.twin (x ∙ sym (halves.twin-e C (length ts) e f apart W r.twinned) ∙ in_twins e le))
              (λ x. q.twin (x ∙ sym (halves.twin-f C (length ts) e f apart W r.twinned) ∙ in_twins f lf))

          at_far : corner_in cs (before (twin_in ws g)) ≡ C (before (W g))
          at_far =
              corner-at (before (twin_in ws g)) (λ x. p.twin-before (twin_back g (before e) l (before-within (length ts) e le) (before_is (twin_in ws g) e x)))
              (λ x. q.twin-before (twin_back g (before f) l (before-within (length ts) f lf) (before_is (twin_in ws g) f x)))
              ∙ ap (λ x. C (before x)) twin-g

          long : length cs ≡ length c
          long = ap length a.corners-are ∙ corners-length c e f

      abbrev new : List (Three ℕ)
      new = map (exchange (C e) (C (after e)) (C (before e)) (C (before f))) ts

      same_count : length new ≡ length ts
      same_count = length-map ts (exchange (C e) (C (after e)) (C (before e)) (C (before f)))

      abbrev key : ℕ → ℕ
      key = key_in (place_of s) cs ws

      abbrev k1 : List ℕ
      k1 = renew_triangle key ws e ks

      abbrev k2 : List ℕ
      k2 = renew_side key ws f k1

      long-1 : length k1 ≡ m
      long-1 = triangle-length key ws e ks ∙ r.keys-count

      long-2 : length k2 ≡ m
      long-2 = side-length key ws f k1 ∙ long-1

      -- The new side belongs to both triangles.
      both : (g : ℕ) → Off ws e g → (g ≡ f → ⊥) → (g ≡ twin_in ws f → ⊥) → (g ≡ before f → ⊥) → (g ≡ twin_in ws (before f) → ⊥) → Off ws f g
      both g p a1 a2 a3 a4 =
          record {
            own = a1;
            own-after = λ x. p.twin-after (x ∙ sym (halves.twin-e1 C (length ts) e f apart W r.twinned) ∙ in_twins (after e) (after-within (length ts) e le));
            own_before = a3;
            twin = a2;
            twin-after = λ x. p.own-after (x ∙ sym (in_twins (after f) (after-within (length ts) f lf)) ∙ halves.twin-f1 C (length ts) e f apart W r.twinned);
            twin-before = a4;
          }

      keys-after : (g : ℕ) → g < m → get_or us g 0 ≡ key_in (place_of s) cs ws g
      keys-after g l =
          ap (λ x. get_or x g 0) a.keys-are
          ∙ side_right key g ws (before f) k2 (omega (arith, long-2))
          (λ a3 a4. side_right key g ws f k1 (omega (arith, long-1))
          (λ a1 a2. triangle-right key g ws e ks (omega (arith, r.keys-count)) (λ p. r.keys-right g l ∙ sym (key-kept g l p (both g p a1 a2 a3 a4)))))

      held_new : Held s new cs ws us
      unfolding side
      held_new =
          record {
            mesh = subst (MeshOf s) (swap_is s fit ts r.mesh side) (swap-mesh s fit ts r.mesh side);
            drawn =
                drawn_same (swap_corners e f C) (corner_in cs) new (λ h l. in_corners h (omega (arith, same_count)))
                (swap-drawn C ts r.drawn s r.mesh e f le lf (r.twinned.from e le lf) (r.twinned.to e le lf) far);
            twinned = subst (λ n. Twinned (corner_in cs) (twin_in ws) (3 * n)) (sym same_count) twinned-after;
            corners-count = omega (arith, ap length a.corners-are, corners-length c e f, r.corners-count, same_count);
            twins-count = omega (arith, ap length a.twins-are, twins-length w e f, r.twins-count, same_count);
            keys-count = omega (arith, ap length a.keys-are, side-length key ws (before f) k2, long-2, same_count);
            keys-right = λ g l. keys-after g (omega (arith, same_count));
          }

      -- The swap in the rooms is the swap in the mesh.
      pub swap-held : Held s (swap ts (C e) (C (after e))) cs ws us
      unfolding side
      swap-held = subst (λ x. Held s x cs ws us) (sym (swap_is s fit ts r.mesh side)) held_new

      pub swap-count : length (swap ts (C e) (C (after e))) ≡ length ts
      unfolding side
      swap-count = ap length (swap_is s fit ts r.mesh side) ∙ same_count
