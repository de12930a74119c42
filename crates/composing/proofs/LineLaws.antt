-- Parts that are put one behind the other: four, and six. Assumes nothing.
use mathlib.Core.List.{List, ◌++◌}
use Prim.Native.Nat.{ℕ}
use native.Mathlib.Omega.{arith}
use lib.ListN.{length-append}
use Rattle.pouring.proofs.PouredLaws.{Put, poured_on}

module _ (old : List ℕ) (at : ℕ) where
  pub four-put : {q1 q2 q3 r : ℕ} {m1 m2 m3 new : List ℕ} (a b c d : List ℕ) → Put old at a q1 m1 → Put m1 q1 b q2 m2 → Put m2 q2 c q3 m3
      → Put m3 q3 d r new → Put old at (a ++ (b ++ (c ++ d))) r new
  four-put a b c d p1 p2 p3 p4 = (simp length-append (omega arith), simp poured_on (cc))

  pub six-put : {q1 q2 q3 q4 q5 r : ℕ} {m1 m2 m3 m4 m5 new : List ℕ} (a b c d e f : List ℕ) → Put old at a q1 m1 → Put m1 q1 b q2 m2
      → Put m2 q2 c q3 m3 → Put m3 q3 d q4 m4 → Put m4 q4 e q5 m5 → Put m5 q5 f r new → Put old at (a ++ (b ++ (c ++ (d ++ (e ++ f))))) r new
  six-put a b c d e f p1 p2 p3 p4 p5 p6 = (simp length-append (omega arith), simp poured_on (cc))
