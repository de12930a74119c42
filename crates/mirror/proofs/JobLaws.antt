-- The jobs' answers where every height is negated: the same refusals, and the heights mirrored. Assumes nothing.
--
-- The range of heights reaches as far below 0 as above it, and the other tests are of counts and places. The mesh is the same, and so is
-- the triangle that holds a place.
use mathlib.Core.Path.{◌≡◌, refl, sym, ap, ◌∙◌, subst}
use mathlib.Core.Bool.{Bool, true, false, cond, not, ◌&&◌, ◌||◌, or_comm}
use mathlib.Core.List.{List}
use Prim.Native.Nat.{ℕ}
use native.Mathlib.Omega.{arith}
use lib.Dec.{ltb, eqb}
use lib.IntN.{ℤ, pos, neg_ℤ}
use lib.ListN.{length, length-map}
use lib.Signed.{lt_z}
use Rattle.lists.specs.Lowest.{lowest}
use Rattle.whole.specs.Place.{Place}
use Rattle.whole.proofs.Bridge.{int, neg, test-true, test-false, true-test, false-test}
use Rattle.survey.specs.Limits.{is_count, most_height, beyond, too_far}
use Rattle.survey.specs.Survey.{Survey, count, place_of, height_of}
use Rattle.survey.specs.Checks.{is_out_of_range, is_repeat, is_one_line, checked}
use Rattle.std.specs.Prelude.{Ok, Err, ⊤}
use Rattle.survey.specs.Answer.{Answer}
use Rattle.survey.specs.declared.answers.Height.TheVariants.{Own, Between, Outside}
use Rattle.survey.specs.declared.refusal.Refusal.TheVariants.{Count, Range, SamePlace, OneLine, Number, Room}
use Rattle.sweep.specs.Sweep.{Three}
use Rattle.slopes.specs.Job.{answer, sloped}
use Rattle.hull.specs.Hull.{is_right, is_between, is_hull_side}
use Rattle.mesh.specs.Kinds.{is_no_kind, triangles_of}
use Rattle.held.specs.Held.{station_at, interpolated}
use Rattle.height.specs.Height.{is_outside, first_holding, height_at}
use Rattle.height.specs.Job.{is_far, is_tight, height_after, heighted}
use Rattle.mirror.specs.Mirror.{negated, Mirrored, own, between, outside, refused}
use Rattle.mirror.proofs.SlopeLaws.{height-negated}
use Rattle.mirror.proofs.HeightLaws.{interpolated-negated}
use Rattle.mirror.proofs.MeshLaws.{mesh_same}

-- ---- refusals 1 to 4
turned-test : (a b : ℤ) → lt_z (neg_ℤ a) (neg_ℤ b) ≡ lt_z b a
turned-test a b = go (lt_z b a) refl
  where
    go : (t : Bool) → lt_z b a ≡ t → lt_z (neg_ℤ a) (neg_ℤ b) ≡ t
    go true e = true-test {a = neg_ℤ a} {b = neg_ℤ b} (omega (arith, int, neg a, neg b, test-true {a = b} {b = a} e))
    go false e = false-test {a = neg_ℤ a} {b = neg_ℤ b} (omega (arith, int, neg a, neg b, test-false {a = b} {b = a} e))

-- 'from -32,767 to 32,767'
range_same : (z : ℤ) → too_far (neg_ℤ z) ≡ too_far z
range_same z =
    (λ t. turned-test z (pos most_height) t || turned-test (neg_ℤ (pos most_height)) z t)
    ∙ or_comm (lt_z (pos most_height) z) (lt_z z (neg_ℤ (pos most_height)))

module _ (s : Survey) where
  out_same : (k : ℕ) → is_out_of_range (negated s) k ≡ is_out_of_range s k
  out_same k = ap (λ (b : Bool). beyond (place_of s k).x || (beyond (place_of s k).y || b)) (ap too_far (height-negated s k) ∙ range_same (height_of s k))

  pub checked-negated : checked (negated s) ≡ checked s
  unfolding checked is_repeat is_one_line
  checked-negated = λ t.
      let n = count s in
      let range = lowest (λ k. out_same k t) n in
      let same = lowest (is_repeat s) n in
      cond (not (eqb (length s.ys) n && (eqb (length-map s.zs neg_ℤ t) n && is_count n))) (Err Count)
      (cond (ltb range n) (Err (Range range)) (cond (ltb same n) (Err (SamePlace same)) (cond (is_one_line s) (Err OneLine) (Ok tt))))

  -- The slopes job.
  pub sloped-negated : (room : ℕ) → sloped (negated s) room ≡ sloped s room
  sloped-negated room = ap (answer (negated s) room) checked-negated ∙ go (checked s)
    where
      go : (c : Answer ⊤) → answer (negated s) room c ≡ answer s room c
      go (Err why) = refl
      go (Ok _) = refl

  -- ---- the height job
  height-mirrored : (ts : List (Three ℕ)) (p : Place) → Mirrored (Ok (height_at s ts p)) (Ok (height_at (negated s) ts p))
  unfolding height_at is_outside is_hull_side is_right is_between
  height-mirrored ts p = go (ltb (station_at s p) (count s)) (is_outside s p)
    where
      go : (a b : Bool)
          → Mirrored (Ok (cond a (Own (height_of s (station_at s p))) (cond b Outside (Between (interpolated s (first_holding s ts p) p)))))
          (Ok (cond a (Own (height_of (negated s) (station_at s p))) (cond b Outside (Between (interpolated (negated s) (first_holding s ts p) p)))))
      go true b =
          subst (λ (z : ℤ). Mirrored (Ok (Own (height_of s (station_at s p)))) (Ok (Own z))) (sym (height-negated s (station_at s p))) (own (height_of s (station_at s p)))
      go false true = outside
      go false false = between (interpolated-negated s (first_holding s ts p) p)

  pub heighted-mirrored : (kind : ℕ) (p : Place) (room work : ℕ) → Mirrored (heighted s kind p room work) (heighted (negated s) kind p room work)
  heighted-mirrored kind p room work =
      subst (λ (c : Answer ⊤). Mirrored (heighted s kind p room work) (height_after (negated s) kind p room work c)) (sym checked-negated) (go (checked s))
    where
      tests : (a b : Bool)
          → Mirrored (cond a (Err Number) (cond b (Err Room) (Ok (height_at s (triangles_of kind s) p))))
          (cond a (Err Number) (cond b (Err Room) (Ok (height_at (negated s) (triangles_of kind (negated s)) p))))
      tests true b = refused Number
      tests false true = refused Room
      tests false false =
          subst (λ (ts : List (Three ℕ)). Mirrored (Ok (height_at s (triangles_of kind s) p)) (Ok (height_at (negated s) ts p))) (sym (mesh_same s kind))
          (height-mirrored (triangles_of kind s) p)

      go : (c : Answer ⊤) → Mirrored (height_after s kind p room work c) (height_after (negated s) kind p room work c)
      go (Err why) = refused why
      go (Ok _) = tests (is_no_kind kind || is_far p) (is_tight s room work)
