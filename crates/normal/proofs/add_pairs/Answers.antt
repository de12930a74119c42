-- `add_pairs` meets its contract: six pairs in order, and no sum on the way is too large. Assumes nothing.
use mathlib.Core.Path.{◌≡◌, sym, ap, ◌∙◌, subst}
use Prim.Native.Nat.{ℕ, ◌+◌}
use native.Mathlib.Omega.{arith}
use Rattle.normal.specs.declared.Step.{Step}
use Rattle.normal.specs.declared.Normal.{Normal}
use Rattle.normal.specs.Normal.{normal_of, added, Short, Small}
use Rattle.normal.proofs.NormalLaws.{normal-small, added-small, none_small, smaller}
use Rattle.normal.proofs.add_pairs.Goals as goal

-- a sum with one pair more
next : {m : ℕ} {sum r : Normal} {a b : Step} → Small m sum → Short 536870912 a → Short 536870912 b → r ≡ added sum (normal_of a b) → Small (m + 8795019280384) r
next {m} h k l e = subst (Small (m + 8795019280384)) (sym e) (added-small h (normal-small (omega arith) k l))

pub add_pair-ab-requires : goal.add_pair-ab-requires
add_pair-ab-requires c = (smaller none_small (omega arith), c.requires.0, c.requires.1)

pub add_pair-ac-requires : goal.add_pair-ac-requires
add_pair-ac-requires c = (smaller (next none_small c.requires.0 c.requires.1 c.add_pair-ab.ensures) (omega arith), c.requires.0, c.requires.2)

pub add_pair-ad-requires : goal.add_pair-ad-requires
add_pair-ad-requires c =
    let one = next none_small c.requires.0 c.requires.1 c.add_pair-ab.ensures in
    (smaller (next one c.requires.0 c.requires.2 c.add_pair-ac.ensures) (omega arith), c.requires.0, c.requires.3)

pub add_pair-bc-requires : goal.add_pair-bc-requires
add_pair-bc-requires c =
    let one = next none_small c.requires.0 c.requires.1 c.add_pair-ab.ensures in
    let two = next one c.requires.0 c.requires.2 c.add_pair-ac.ensures in
    (smaller (next two c.requires.0 c.requires.3 c.add_pair-ad.ensures) (omega arith), c.requires.1, c.requires.2)

pub add_pair-bd-requires : goal.add_pair-bd-requires
add_pair-bd-requires c =
    let one = next none_small c.requires.0 c.requires.1 c.add_pair-ab.ensures in
    let two = next one c.requires.0 c.requires.2 c.add_pair-ac.ensures in
    let three = next two c.requires.0 c.requires.3 c.add_pair-ad.ensures in
    (smaller (next three c.requires.1 c.requires.2 c.add_pair-bc.ensures) (omega arith), c.requires.1, c.requires.3)

pub add_pair-requires : goal.add_pair-requires
add_pair-requires c =
    let one = next none_small c.requires.0 c.requires.1 c.add_pair-ab.ensures in
    let two = next one c.requires.0 c.requires.2 c.add_pair-ac.ensures in
    let three = next two c.requires.0 c.requires.3 c.add_pair-ad.ensures in
    let four = next three c.requires.1 c.requires.2 c.add_pair-bc.ensures in
    (smaller (next four c.requires.1 c.requires.3 c.add_pair-bd.ensures) (omega arith), c.requires.2, c.requires.3)

pub returns : goal.returns
returns c =
    let a = c.args in
    c.add_pair.ensures
    ∙ ap (λ (m : Normal). added m (normal_of a.c a.d))
    (c.add_pair-bd.ensures
    ∙ ap (λ (m : Normal). added m (normal_of a.b a.d))
    (c.add_pair-bc.ensures
    ∙ ap (λ (m : Normal). added m (normal_of a.b a.c))
    (c.add_pair-ad.ensures
    ∙ ap (λ (m : Normal). added m (normal_of a.a a.d))
    (c.add_pair-ac.ensures
    ∙ ap (λ (m : Normal). added m (normal_of a.a a.c)) c.add_pair-ab.ensures))))
