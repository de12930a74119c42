-- What the code reads and writes of half-sides. Assumes nothing.
use mathlib.Core.Path.{◌≡◌, refl, sym, ap, ap₂, ◌∙◌}
use mathlib.Core.Bool.{Bool, true, false, cond, ◌&&◌}
use mathlib.Core.List.{List, [], ◌∷◌, ◌++◌, append-nil}
use Prim.Native.Nat.{ℕ, zero, suc, ◌+◌, ◌-◌, ◌*◌, ◌≤◌, ◌<◌}
use native.Mathlib.Omega.{arith}
use borrow.Author.Tests.{lt-ltb, le-ltb}
use lib.Dec.{ltb}
use lib.IntN.{pos}
use lib.ListN.{length, get_or, set, take, drop, drop_of_length-le, length-drop, length-append}
use lib.Seq.{take_at, drop_at, length-take-le, get_or-take}
use lib.Signed.{lt_z}
use Rattle.whole.specs.Place.{Place}
use Rattle.circle.specs.Circle.{circle}
use Rattle.neighbours.specs.Half.{after, before, corner_in}
use Rattle.neighbours.specs.Room.{threes}
use Rattle.neighbours.proofs.RoomLaws.{threes-agree}
use borrow.Rule.Slice.PartMut.{put_mid, post_of}
use Rattle.swapping.specs.Rooms.{corners_of, twins_of, twin_in, may_swap_in, no_key, key_in, corners_after, twins_after, renew, renew_side, renew_triangle, renew_round, After}

-- In a list it does not matter what is read past its end.
pub read_any : (l : List ℕ) (i d e : ℕ) → i < length l → get_or l i d ≡ get_or l i e
read_any [] i d e h = absurd (omega arith)
read_any (x ∷ l) zero d e h = refl
read_any (x ∷ l) (suc i) d e h = read_any l i d e (omega arith)

-- Nothing is left behind the end.
pub front-whole : (a l : List ℕ) (k : ℕ) → length l ≤ k → a ++ drop k l ≡ a
front-whole a l k h = ap (λ t. a ++ t) (drop_of_length-le l h) ∙ append-nil a

-- The corners and the twins of a room in which both were put, one behind the other.
pub put-corners : (m k : ℕ) (c w rest : List ℕ) → length c ≡ m → corners_of m (put_mid m k (c ++ rest) w) ≡ c
put-corners m k c w rest e = ap (λ a. take m (a ++ (w ++ post_of m k (c ++ rest)))) (take_at c rest m e) ∙ take_at c _ m e

pub put-twins : (m k : ℕ) (c w rest : List ℕ) → length c ≡ m → length w ≡ m → twins_of m (put_mid m k (c ++ rest) w) ≡ w
put-twins m k c w rest e f =
    ap (λ a. take m (drop m (a ++ (w ++ post_of m k (c ++ rest))))) (take_at c rest m e) ∙ ap (take m) (drop_at c _ m e) ∙ take_at w _ m f

pub put-long : (m k : ℕ) (c w rest : List ℕ) → length c ≡ m → length w ≡ m → m + m ≤ length (put_mid m k (c ++ rest) w)
put-long m k c w rest e f =
    omega (
      arith,
      length-append (take m (c ++ rest)) (w ++ post_of m k (c ++ rest)),
      length-append w (post_of m k (c ++ rest)),
      ap length (take_at c rest m e),
      e,
      f,
    )

-- How many numbers stand in them.
pub corners-long : (m : ℕ) (room : List ℕ) → m + m ≤ length room → length (corners_of m room) ≡ m
corners-long m room h = length-take-le m room (omega arith)

pub twins-long : (m : ℕ) (room : List ℕ) → m + m ≤ length room → length (twins_of m room) ≡ m
twins-long m room h = length-take-le m (drop m room) (omega (arith, length-drop m room))

-- The triangles of a room are those of its corners.
pub threes-front : (t : ℕ) (room : List ℕ) → threes t (corners_of (3 * t) room) ≡ threes t room
threes-front t room = threes-agree t (corners_of (3 * t) room) room (λ j h. get_or-take (3 * t) room j 0 h)

-- Twice a number without it.
pub twins-part : (m : ℕ) (room : List ℕ) → take (m + m - m) (drop m room) ≡ twins_of m room
twins-part m room = let e : m + m - m ≡ m = omega arith in ap (λ k. take k (drop m room)) e

-- The twins behind other corners.
pub twins-behind : (m : ℕ) (c room : List ℕ) → length c ≡ m → take (m + m - m) (drop m (c ++ drop m room)) ≡ twins_of m room
twins-behind m c room e = ap (take (m + m - m)) (drop_at c (drop m room) m e) ∙ twins-part m room

pub same_bound : {z w : ℕ} → z ≡ w → w ≤ 8191 → z ≤ 8191
same_bound e h = omega (arith, e, h)

-- ---- whether a side may be swapped
and_none : (a : Bool) → false ≡ (a && false)
and_none true = refl
and_none false = refl

module _ (p : ℕ → Place) (c w : List ℕ) (h : ℕ) {i j n : ℕ} (ei : i ≡ corner_in c h) (en : n ≡ after h) (ej : j ≡ corner_in c n) where
  at_after : j ≡ corner_in c (after h)
  at_after = ej ∙ ap (corner_in c) en

  pub may-falls : j ≤ i → false ≡ may_swap_in p c w h
  unfolding may_swap_in
  may-falls l = rw (le-ltb (corner_in c h) (corner_in c (after h)) (omega (arith, at_after)))

  module _ {f : ℕ} (ef : f ≡ twin_in w h) where
    pub may_alone : length c ≤ f → false ≡ may_swap_in p c w h
    unfolding may_swap_in
    may_alone l =
        and_none (ltb (corner_in c h) (corner_in c (after h)))
        ∙ sym (ap (λ b. ltb (corner_in c h) (corner_in c (after h)) && (b && lt_z (pos 0) (circle (p (corner_in c h)) (p (corner_in c (after h))) (p (corner_in c (before h))) (p (corner_in c (before (twin_in w h))))))) (le-ltb (twin_in w h) (length c) (omega (arith, ef))))

    pub may-tell : {u v l r : ℕ} → u ≡ before h → v ≡ before f → l ≡ corner_in c u → r ≡ corner_in c v → i < j → f < length c
        → lt_z (pos 0) (circle (p i) (p j) (p l) (p r)) ≡ may_swap_in p c w h
    unfolding may_swap_in
    may-tell {u} {v} {l} {r} eu ev el er k o =
        (λ n. lt_z (pos 0) (circle (p (ei n)) (p (at_after n)) (p (left n)) (p (right n))))
        ∙ sym (ap₂ (λ a b. a && (b && lt_z (pos 0) (circle (p (corner_in c h)) (p (corner_in c (after h))) (p (corner_in c (before h))) (p (corner_in c (before (twin_in w h)))))))
        (lt-ltb (corner_in c h) (corner_in c (after h)) (omega (arith, ei, at_after))) (lt-ltb (twin_in w h) (length c) (omega (arith, ef))))
      where
        left : l ≡ corner_in c (before h)
        left = el ∙ ap (corner_in c) eu

        right : r ≡ corner_in c (before (twin_in w h))
        right = er ∙ ap (corner_in c) (ev ∙ ap before ef)

  pub key-told : may_swap_in p c w h ≡ true → i * 65536 + j ≡ key_in p c w h
  unfolding key_in
  key-told e = ap₂ (λ a b. a * 65536 + b) ei at_after ∙ sym (ap (λ b. cond b (corner_in c h * 65536 + corner_in c (after h)) no_key) e)

pub key_none : (p : ℕ → Place) (c w : List ℕ) (h : ℕ) → may_swap_in p c w h ≡ false → no_key ≡ key_in p c w h
unfolding key_in
key_none p c w h e = sym (ap (λ b. cond b (corner_in c h * 65536 + corner_in c (after h)) no_key) e)

-- ---- stores
pub side-renewed : (key : ℕ → ℕ) (w ks : List ℕ) (h : ℕ) {f : ℕ} {k1 k2 : List ℕ} → k1 ≡ renew key h ks → f ≡ twin_in w h → k2 ≡ renew key f k1 → k2 ≡ renew_side key w h ks
unfolding renew_side
side-renewed key w ks h e f g = g ∙ ap₂ (λ f k. renew key f k) f e

pub triangle-renewed : (key : ℕ → ℕ) (w ks : List ℕ) (h : ℕ) {a b : ℕ} {k1 k2 k3 : List ℕ} → a ≡ after h → b ≡ before h
    → k1 ≡ renew_side key w h ks → k2 ≡ renew_side key w a k1 → k3 ≡ renew_side key w b k2 → k3 ≡ renew_triangle key w h ks
unfolding renew_triangle
triangle-renewed key w ks h ea eb p q r = r ∙ ap₂ (renew_side key w) eb (q ∙ ap₂ (renew_side key w) ea p)

pub corners-stored : (c : List ℕ) (e f : ℕ) {u v a b l r : ℕ} {c1 c2 : List ℕ} → u ≡ before e → v ≡ before f → a ≡ after f → b ≡ after e
    → l ≡ corner_in c u → r ≡ corner_in c v → c1 ≡ set c a l → c2 ≡ set c1 b r → c2 ≡ corners_after c e f
unfolding corners_after
corners-stored c e f eu ev ea eb el er p q =
    q ∙ (λ n. set ((p ∙ (λ n. set c (ea n) ((el ∙ ap (corner_in c) eu) n))) n) (eb n) ((er ∙ ap (corner_in c) ev) n))

pub twins-stored : (w : List ℕ) (e f : ℕ) {g h a b : ℕ} {w1 w2 w3 w4 w5 w6 : List ℕ} → g ≡ after e → h ≡ after f → a ≡ twin_in w h → b ≡ twin_in w g
    → w1 ≡ set w f b → w2 ≡ set w1 e a → w3 ≡ set w2 b f → w4 ≡ set w3 a e → w5 ≡ set w4 h g → w6 ≡ set w5 g h → w6 ≡ twins_after w e f
unfolding twins_after
twins-stored w e f {g} {h} {a} {b} eg eh ea eb p1 p2 p3 p4 p5 p6 =
    p6
    ∙ ap (λ o. set o g h) (p5 ∙ ap (λ o. set o h g) (p4 ∙ ap (λ o. set o a e) (p3 ∙ ap (λ o. set o b f) (p2 ∙ ap (λ o. set o e a) p1))))
    ∙ (λ n. let x = ea2 n in let y = eb2 n in set (set (set (set (set (set w f y) e x) y f) x e) (eh n) (eg n)) (eg n) (eh n))
  where
    ea2 : a ≡ twin_in w (after f)
    ea2 = ea ∙ ap (twin_in w) eh

    eb2 : b ≡ twin_in w (after e)
    eb2 = eb ∙ ap (twin_in w) eg

-- ---- one swap
pub round-renewed : (key : ℕ → ℕ) (w ks : List ℕ) (e f : ℕ) {g : ℕ} {k1 k2 k3 : List ℕ} → g ≡ before f → k1 ≡ renew_triangle key w e ks → k2 ≡ renew_side key w f k1
    → k3 ≡ renew_side key w g k2 → k3 ≡ renew_round key w e f ks
round-renewed key w ks e f eg p q r = r ∙ ap₂ (renew_side key w) eg (q ∙ ap (renew_side key w f) p)

pub after-told : (p : ℕ → Place) (e : ℕ) (c w ks : List ℕ) {f : ℕ} {cs ws us : List ℕ} → f ≡ twin_in w e → cs ≡ corners_after c e f → ws ≡ twins_after w e f
    → us ≡ renew_round (key_in p cs ws) ws e f ks → After p e c w ks cs ws us
after-told p e c w ks {f} {cs} {ws} ef a b k =
    record {
      corners-are = a ∙ ap (corners_after c e) ef;
      twins-are = b ∙ ap (twins_after w e) ef;
      keys-are = k ∙ ap (λ f. renew_round (key_in p cs ws) ws e f ks) ef;
    }
