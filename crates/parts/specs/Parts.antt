-- The ranges in which the parts can be asked: outside them the answer is 0 and nothing changes. Assumes nothing.
use Rattle.std.specs.Prelude.{Bool, cond, not, ◌&&◌, ◌||◌, ℕ, leb, ltb, ℤ, pos, neg_ℤ}
use Rattle.std.specs.Int.Signed.{lt_z}

-- 1 in range, else 0.
abbrev pub flag : Bool → ℕ
flag b = cond b 1 0

abbrev pub can_round : ℤ → ℕ → Bool
can_round n d = not (lt_z n (neg_ℤ (pos 1152921504606846976)) || lt_z (pos 1152921504606846976) n) && (ltb 0 d && leb d 1152921504606846976)

abbrev pub can_cut : ℕ → Bool
can_cut bound = leb bound 4611686018427387904

abbrev pub is_near : ℕ → Bool
is_near x = leb x 1073741823

abbrev pub can_turn : ℕ → ℕ → ℕ → ℕ → ℕ → ℕ → Bool
can_turn ax ay bx by cx cy = is_near ax && (is_near ay && (is_near bx && (is_near by && (is_near cx && is_near cy))))
