use mathlib.Core.Path.{◌≡◌, sym, ap, ◌∙◌}
use mathlib.Core.List.{List, ◌∷◌, [], ◌++◌, append_assoc}
use Prim.Native.Nat.{ℕ, suc, ◌+◌, ◌<◌}
use native.Mathlib.Numerals.{add-one}
use native.Mathlib.Omega.{arith}
use lib.ListN.{length, get_or, set, take, drop}
use lib.Seq.{take-suc, drop-cons, set_at, length-take-le}
use Rattle.mesh.proofs.copy.Goals as goal

-- One number more.
more : (a b : List ℕ) (k : ℕ) → k < length a → k < length b → set (take k a ++ drop k b) k (get_or a k 0) ≡ take (k + 1) a ++ drop (k + 1) b
more a b k h l =
    rw (add-one, drop-cons b k 0, take-suc a k 0 h)
    (set_at (take k a) _ _ (get_or a k 0) k (length-take-le k a (omega arith)) ∙ sym (append_assoc (take k a) (get_or a k 0 ∷ []) (drop (suc k) b)))

pub loop-k-preserved : goal.loop-k-preserved
loop-k-preserved c =
    let l = c.loop-k in
    let a = c.args in
    ap (λ o. set o l.k (get_or a.from.now l.k 0)) l.invariant ∙ more a.from.now a.to.now l.k (omega arith) (omega arith)
