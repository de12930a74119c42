-- Triangles at the front of a list: laid out flat they are its first numbers (`flat-threes`), they come back from there (`threes-flat`), and
-- lists that agree there have the same (`threes-agree`). They follow one another (`threes-next`, `threes_at`). A list is told by its parts
-- (`part_is`). Assumes nothing.
use Prim.Native.Nat.{ℕ, zero, suc, ◌+◌, ◌*◌, ◌≤◌, ◌<◌}
use native.Mathlib.Omega.{arith}
use mathlib.Core.Path.{◌≡◌, refl, sym, ap, subst, ◌∙◌}
use mathlib.Core.List.{List, [], ◌∷◌, ◌++◌, append-nil}
use lib.ListN.{length, get_or, take, drop}
use lib.Seq.{get_or-drop, get_or-take, drop-cons}
use Rattle.sweep.specs.Members.{In, here, there}
use Rattle.sweep.specs.Sweep.{Three, tri, flat, triangle_in}
use Rattle.neighbours.specs.Room.{threes, Holds}

-- Three numbers to a triangle.
pub length-flat : {A : Type 0} (ts : List (Three A)) → length (flat ts) ≡ 3 * length ts
unfolding flat
length-flat [] = refl
length-flat (t ∷ ts) = omega (arith, length-flat ts)

pub length-threes : (t : ℕ) (l : List ℕ) → length (threes t l) ≡ t
unfolding threes
length-threes zero l = refl
length-threes (suc t) l = ap suc (length-threes t (drop 3 l))

-- Laid out flat, they are the first numbers of the list.
pub flat-threes : (t : ℕ) (l : List ℕ) (j : ℕ) → j < 3 * t → get_or (flat (threes t l)) j 0 ≡ get_or l j 0
unfolding flat threes
flat-threes zero l j h = absurd (omega arith)
flat-threes (suc t) l zero h = refl
flat-threes (suc t) l (suc zero) h = refl
flat-threes (suc t) l (suc (suc zero)) h = refl
flat-threes (suc t) l (suc (suc (suc j))) h =
    let e : 3 + j ≡ suc (suc (suc j)) = omega arith in
    flat-threes t (drop 3 l) j (omega arith) ∙ get_or-drop 3 l j 0 ∙ ap (λ i. get_or l i 0) e

-- They come back from there, whatever stands behind.
pub threes-flat : (ts : List (Three ℕ)) (rest : List ℕ) → threes (length ts) (flat ts ++ rest) ≡ ts
unfolding flat threes
threes-flat [] rest = refl
threes-flat (t ∷ ts) rest = ap (λ us. t ∷ us) (threes-flat ts rest)

-- They come back from a room that holds their records.
pub holds-threes : (ts : List (Three ℕ)) (n : ℕ) (room : List ℕ) → Holds ts n room → threes (length ts) room ≡ ts
holds-threes ts n room h = ap (threes (length ts)) h.room_is ∙ threes-flat ts _

-- Lists that agree on their first numbers have the same triangles.
pub threes-agree : (t : ℕ) (l r : List ℕ) → ((j : ℕ) → j < 3 * t → get_or l j 0 ≡ get_or r j 0) → threes t l ≡ threes t r
unfolding threes
threes-agree zero l r f = refl
threes-agree (suc t) l r f =
    λ i. tri (f 0 (omega arith) i) (f 1 (omega arith) i) (f 2 (omega arith) i)
    ∷ threes-agree t (drop 3 l) (drop 3 r) (λ j h. get_or-drop 3 l j 0 ∙ f (3 + j) (omega arith) ∙ sym (get_or-drop 3 r j 0)) i

-- They come back where the first numbers are theirs.
pub front-threes : (ts : List (Three ℕ)) (t : ℕ) (room : List ℕ) → t ≡ length ts → take (3 * t) room ≡ flat ts → threes t room ≡ ts
front-threes ts t room n e =
    sym (threes-agree t (take (3 * t) room) room (λ j h. get_or-take (3 * t) room j 0 h))
    ∙ (λ i. threes (n i) (e i))
    ∙ ap (threes (length ts)) (sym (append-nil (flat ts)))
    ∙ threes-flat ts []

-- One triangle more stands behind those before it, and each is one of them.
pub behind : (l : List ℕ) (k : ℕ) → triangle_in (drop 3 l) k ≡ triangle_in l (suc k)
behind l k =
    let a : 3 + 3 * k ≡ 3 * suc k = omega arith in
    let b : 3 + (3 * k + 1) ≡ 3 * suc k + 1 = omega arith in
    let c : 3 + (3 * k + 2) ≡ 3 * suc k + 2 = omega arith in
    (λ i. tri (get_or-drop 3 l (3 * k) 0 i) (get_or-drop 3 l (3 * k + 1) 0 i) (get_or-drop 3 l (3 * k + 2) 0 i))
    ∙ (λ i. tri (get_or l (a i) 0) (get_or l (b i) 0) (get_or l (c i) 0))

pub threes-next : (k : ℕ) (l : List ℕ) → threes (suc k) l ≡ threes k l ++ (triangle_in l k ∷ [])
unfolding threes
threes-next zero l = refl
threes-next (suc k) l =
    ap (λ us. tri (get_or l 0 0) (get_or l 1 0) (get_or l 2 0) ∷ us)
    (threes-next k (drop 3 l) ∙ ap (λ u. threes k (drop 3 l) ++ (u ∷ [])) (behind l k))

pub threes_at : (t k : ℕ) (l : List ℕ) → k < t → get_or (threes t l) k (tri 0 0 0) ≡ triangle_in l k
unfolding threes
threes_at zero k l h = absurd (omega arith)
threes_at (suc t) zero l h = refl
threes_at (suc t) (suc k) l h = threes_at t k (drop 3 l) (omega arith) ∙ behind l k

pub threes_in : (t k : ℕ) (l : List ℕ) → k < t → In (triangle_in l k) (threes t l)
unfolding threes
threes_in zero k l h = absurd (omega arith)
threes_in (suc t) zero l h = here refl
threes_in (suc t) (suc k) l h = there (subst (λ u. In u (threes t (drop 3 l))) (behind l k) (threes_in t k (drop 3 l) (omega arith)))

-- A part of a list, by its entries.
pub part_is : (l room : List ℕ) (k d : ℕ) → k + length l ≤ length room → ((i : ℕ) → i < length l → get_or room (k + i) 0 ≡ get_or l i d)
    → drop k room ≡ l ++ drop (k + length l) room
part_is [] room k d h f = let e : k ≡ k + 0 = omega arith in ap (λ i. drop i room) e
part_is (x ∷ l) room k d h f =
    let z : k + 0 ≡ k = omega arith in
    let e : suc k + length l ≡ k + suc (length l) = omega arith in
    drop-cons room k 0 (omega arith)
    ∙ (λ i. (ap (λ j. get_or room j 0) (sym z) ∙ f 0 (omega arith)) i ∷ part_is l room (suc k) d (omega arith) later i)
    ∙ ap (λ j. x ∷ (l ++ drop j room)) e
  where
    later : (i : ℕ) → i < length l → get_or room (suc k + i) 0 ≡ get_or l i d
    later i g = let e : suc k + i ≡ k + suc i = omega arith in ap (λ j. get_or room j 0) e ∙ f (suc i) (omega arith)
