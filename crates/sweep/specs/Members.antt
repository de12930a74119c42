-- Lists of stations, sides and triangles: sums over them, and what holds of a member. Assumes nothing.
use Rattle.std.specs.Prelude.{◌≡◌, List, [], ◌∷◌, ℕ, ◌+◌, ℤ, pos, ◌+ℤ◌}

-- The sum of f over a list, in naturals and in whole numbers.
unfoldable pub total : {A : Type 0} → (A → ℕ) → List A → ℕ
total f [] = 0
total f (x ∷ xs) = f x + total f xs

unfoldable pub sum : {A : Type 0} → (A → ℤ) → List A → ℤ
sum f [] = pos 0
sum f (x ∷ l) = f x +ℤ sum f l

-- P holds of some member; x is a member.
pub data Any {A : Type 0} (P : A → Type 0) : List A → Type 0 where
  here : {x : A} {l : List A} → P x → Any P (x ∷ l)
  there : {x : A} {l : List A} → Any P l → Any P (x ∷ l)

abbrev pub In : {A : Type 0} → A → List A → Type 0
In x l = Any (λ y. x ≡ y) l
