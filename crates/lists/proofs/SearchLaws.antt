-- A search that has come to i of n numbers, none before i passing its test: how it goes on, and what it finds. Assumes nothing.
use mathlib.Core.Path.{◌≡◌, sym, ◌∙◌}
use mathlib.Core.Bool.{Bool, true, false}
use Prim.Native.Nat.{ℕ, ◌+◌, ◌-◌, ◌<◌, ◌≤◌}
use native.Mathlib.Omega.{arith}
use borrow.Author.Tests.{lt-ltb, le-ltb}
use Rattle.lists.specs.Lowest.{lowest_from, lowest, some}
use Rattle.lists.proofs.LowestLaws.{lowest-hit, lowest-miss, lowest-end}

pub record Sought (p : ℕ → Bool) (n i : ℕ) : Type 0 where
  pub within : i ≤ n
  pub rest : lowest_from p (n - i) i ≡ lowest p n

module _ {p : ℕ → Bool} {n : ℕ} where
  pub sought_none : Sought p n 0
  sought_none = let e : n - 0 ≡ n = omega arith in record { within = omega arith; rest = rw e }

  module _ {i : ℕ} (s : Sought p n i) where
    pub sought-more : i < n → p i ≡ false → Sought p n (i + 1)
    sought-more h e = record { within = omega arith; rest = sym (lowest-miss p n i h e) ∙ s.rest }

    -- It finds i, and so that some number passes; or none.
    pub sought-hit : i < n → p i ≡ true → i ≡ lowest p n
    sought-hit h e = sym (lowest-hit p n i h e) ∙ s.rest

    pub sought-end : n ≤ i → i ≡ lowest p n
    sought-end h = sym (lowest-end p n i h) ∙ s.rest

    pub sought-some : i < n → p i ≡ true → true ≡ some p n
    sought-some h e = sym (lt-ltb (lowest p n) n (omega (arith, sought-hit h e)))

    pub sought_no : n ≤ i → false ≡ some p n
    sought_no h = sym (le-ltb (lowest p n) n (omega (arith, sought-end h)))
