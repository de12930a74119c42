-- Triangles written one by one from some place of a room on: the steps of the loop, and what the room holds then. Assumes nothing.
use mathlib.Core.Path.{◌≡◌, refl, sym, ap, ap₂, ◌∙◌}
use mathlib.Core.List.{List, [], ◌∷◌, ◌++◌, append_assoc, append-nil}
use Prim.Native.Nat.{ℕ, suc, ◌+◌, ◌-◌, ◌*◌, ◌<◌, ◌≤◌}
use native.Mathlib.Numerals.{add-one}
use native.Mathlib.Omega.{arith}
use lib.ListN.{length, get_or, set, drop, length-set, length-append}
use lib.Seq.{drop-cons, set_at}
use Rattle.sweep.specs.Sweep.{Three, flat}
use Rattle.triangles.specs.Chain.{values, put, put_all}

pub put-length : (k : ℕ) (t : Three ℕ) (room : List ℕ) → length (put k t room) ≡ length room
unfolding put
put-length k t room = simp length-set

-- One triangle more is written, the next of what is left.
pub put_next : (g : ℕ → Three ℕ) (k i n : ℕ) (room' room : List ℕ) → i < n → room' ≡ put (k + i) (g i) room
    → put_all (k + (i + 1)) (values g (i + 1) (n - (i + 1))) room' ≡ put_all (k + i) (values g i (n - i)) room
unfolding put_all values
put_next g k i n room' room h e =
    let f : n - i ≡ suc (n - (i + 1)) = omega arith in
    let m : k + (i + 1) ≡ suc (k + i) = omega arith in
    rw (f, m, e, add-one i)

-- Where nothing is left, all is written.
pub put_none : (g : ℕ → Three ℕ) (k i n : ℕ) (room : List ℕ) → n ≤ i → room ≡ put_all k (values g i (n - i)) room
unfolding put_all values
put_none g k i n room h = let f : n - i ≡ 0 = omega arith in rw f

-- Three stores behind a front.
put-behind : (front rest : List ℕ) (x y z k : ℕ) (t : Three ℕ) → length front ≡ 3 * k → put k t (front ++ (x ∷ y ∷ z ∷ rest)) ≡ front ++ (t.a ∷ t.b ∷ t.c ∷ rest)
unfolding put
put-behind front rest x y z k t e =
    ap (λ m. set (set m (3 * k + 1) t.b) (3 * k + 2) t.c) (set_at front x (y ∷ z ∷ rest) t.a (3 * k) e)
    ∙ ap (λ m. set m (3 * k + 2) t.c) (second (set_at (front ++ (t.a ∷ [])) y (z ∷ rest) t.b (3 * k + 1) (longer front t.a (3 * k) e)))
    ∙ third (set_at (front ++ (t.a ∷ t.b ∷ [])) z rest t.c (3 * k + 2) (longer-two front t.a t.b (3 * k) e))
  where
    longer : (l : List ℕ) (a n : ℕ) → length l ≡ n → length (l ++ (a ∷ [])) ≡ n + 1
    longer l a n h = omega (arith, length-append l (a ∷ []), h)

    longer-two : (l : List ℕ) (a b n : ℕ) → length l ≡ n → length (l ++ (a ∷ b ∷ [])) ≡ n + 2
    longer-two l a b n h = omega (arith, length-append l (a ∷ b ∷ []), h)

    second : set ((front ++ (t.a ∷ [])) ++ (y ∷ z ∷ rest)) (3 * k + 1) t.b ≡ (front ++ (t.a ∷ [])) ++ (t.b ∷ z ∷ rest) → set (front ++ (t.a ∷ y ∷ z ∷ rest)) (3 * k + 1) t.b ≡ front ++ (t.a ∷ t.b ∷ z ∷ rest)
    second h = rw (append_assoc front (t.a ∷ []) (y ∷ z ∷ rest), append_assoc front (t.a ∷ []) (t.b ∷ z ∷ rest)) at h

    third : set ((front ++ (t.a ∷ t.b ∷ [])) ++ (z ∷ rest)) (3 * k + 2) t.c ≡ (front ++ (t.a ∷ t.b ∷ [])) ++ (t.c ∷ rest) → set (front ++ (t.a ∷ t.b ∷ z ∷ rest)) (3 * k + 2) t.c ≡ front ++ (t.a ∷ t.b ∷ t.c ∷ rest)
    third h = rw (append_assoc front (t.a ∷ t.b ∷ []) (z ∷ rest), append_assoc front (t.a ∷ t.b ∷ []) (t.c ∷ rest)) at h

pub corners-length : (ts : List (Three ℕ)) → length (flat ts) ≡ 3 * length ts
unfolding flat
corners-length [] = refl
corners-length (t ∷ ts) = omega (arith, corners-length ts)

pub corners-append : (ts us : List (Three ℕ)) → flat (ts ++ us) ≡ flat ts ++ flat us
unfolding flat
corners-append [] us = refl
corners-append (t ∷ ts) us = ap (λ l. t.a ∷ t.b ∷ t.c ∷ l) (corners-append ts us)

three-front : (k : ℕ) (old : List ℕ) → k + 3 ≤ length old → drop k old ≡ get_or old k 0 ∷ get_or old (suc k) 0 ∷ get_or old (suc (suc k)) 0 ∷ drop (k + 3) old
three-front k old h =
    drop-cons old k 0 (omega arith)
    ∙ ap (λ l. get_or old k 0 ∷ l) (drop-cons old (suc k) 0 (omega arith))
    ∙ ap (λ l. get_or old k 0 ∷ get_or old (suc k) 0 ∷ l) (drop-cons old (suc (suc k)) 0 (omega arith))
    ∙ ap (λ n. get_or old k 0 ∷ get_or old (suc k) 0 ∷ get_or old (suc (suc k)) 0 ∷ drop n old) last
  where
    last : suc (suc (suc k)) ≡ k + 3
    last = omega arith

put_one : (ts : List (Three ℕ)) (u : Three ℕ) (old : List ℕ) → 3 * length ts + 3 ≤ length old
    → put (length ts) u (flat ts ++ drop (3 * length ts) old) ≡ flat (ts ++ (u ∷ [])) ++ drop (3 * suc (length ts)) old
unfolding flat
put_one ts u old h =
    ap (λ l. put (length ts) u (flat ts ++ l)) (three-front (3 * length ts) old h)
    ∙ put-behind (flat ts) (drop (3 * length ts + 3) old) _ _ _ (length ts) u (corners-length ts)
    ∙ sym (append_assoc (flat ts) (u.a ∷ u.b ∷ u.c ∷ []) (drop (3 * length ts + 3) old))
    ∙ ap₂ (λ l n. l ++ drop n old) (sym (corners-append ts (u ∷ []))) next
  where
    next : 3 * length ts + 3 ≡ 3 * suc (length ts)
    next = omega arith

-- A room that holds triangles in front, with more of them written behind.
pub put-all : (ts us : List (Three ℕ)) (old : List ℕ) → 3 * (length ts + length us) ≤ length old
    → put_all (length ts) us (flat ts ++ drop (3 * length ts) old) ≡ flat (ts ++ us) ++ drop (3 * length (ts ++ us)) old
unfolding put_all
put-all ts [] old h = rw append-nil
put-all ts (u ∷ us) old h =
    let more : length (ts ++ (u ∷ [])) ≡ suc (length ts) = omega (arith, length-append ts (u ∷ [])) in
    ap (put_all (suc (length ts)) us) (put_one ts u old (omega arith))
    ∙ ap (λ n. put_all n us (flat (ts ++ (u ∷ [])) ++ drop (3 * n) old)) (sym more)
    ∙ put-all (ts ++ (u ∷ [])) us old (omega (arith, more))
    ∙ ap (λ l. flat l ++ drop (3 * length l) old) (append_assoc ts (u ∷ []) us)

pub put_all_length : (k : ℕ) (ts : List (Three ℕ)) (room : List ℕ) → length (put_all k ts room) ≡ length room
unfolding put_all
put_all_length k [] room = refl
put_all_length k (t ∷ ts) room = put_all_length (suc k) ts (put k t room) ∙ put-length k t room
