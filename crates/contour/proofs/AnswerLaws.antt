-- Which case of each answer holds, what the tests of a block say, and what the room holds after a text. Assumes nothing.
use mathlib.Core.Path.{◌≡◌, refl, ◌∙◌}
use mathlib.Core.Bool.{true, false, not, ◌&&◌}
use mathlib.Core.List.{List}
use Prim.Native.Nat.{ℕ, ◌<◌, ◌≤◌}
use borrow.Author.Tests.{lt-ltb, le-ltb, le-leb, ltb-false, leb-true, eqb-true, eq-eqb, not-true}
use lib.Dec.{eqb, leb, ltb}
use lib.ListN.{length, get_or}
use Rattle.lists.proofs.LowestLaws.{none_found}
use Rattle.lists.proofs.TestLaws.{and_left, and_right}
use Rattle.pouring.specs.Poured.{poured}
use Rattle.pouring.proofs.PouredLaws.{poured-whole}
use Rattle.survey.specs.Limits.{most_stations}
use Rattle.survey.specs.Rooms.{vertex_room, record_room}
use Rattle.survey.specs.declared.refusal.Refusal.TheVariants.{Room}
use Rattle.std.specs.Prelude.{Ok, Err}
use Rattle.formats.specs.Contours.{most_spot}
use Rattle.plotting.specs.Records.{vertices_in}
use Rattle.contour.specs.Contour.{heading_of}
use Rattle.contour.specs.Writer.{fitted, Fitted, heading_answer, some_short, is_listed, Listed, some_far}

-- The room is too short, or the text fits, and then it is put from the front and the rest is as it was.
module _ (text old : List ℕ) where
  pub too_short : length old < length text → Fitted text old (Err Room) old
  too_short h = (rw (lt-ltb _ _ h), refl)

  pub is_put : (bytes : ℕ) (new : List ℕ) → length text ≤ length old → bytes ≡ length text → new ≡ poured old 0 text → Fitted text old (Ok bytes) new
  is_put bytes new h e p = rw e (rw (le-ltb _ _ h), p ∙ poured-whole text old h)

pub is_fit : (text : List ℕ) (room : ℕ) → length text ≤ room → fitted text room ≡ Ok (length text)
is_fit text room h = rw (le-ltb _ _ h)

pub of_style : (style room : ℕ) → style ≤ 1 → heading_answer style room ≡ fitted (heading_of style) room
unfolding heading_answer
of_style style room h = rw (le-leb _ _ h)

module _ (records xs ys : List ℕ) where
  pub listed : is_listed records xs ys ≡ true → Listed records xs ys
  listed h =
      let a = leb (length records) (record_room most_stations) in
      let b = leb (length xs) (vertex_room most_stations) in
      let d = eqb (length ys) (length xs) in
      let e = eqb (vertices_in records) (length xs) in
      let f = not (some_short records) in
      let bdef = and_right a (b && (d && (e && f))) h in
      let def = and_right b (d && (e && f)) bdef in
      let ef = and_right d (e && f) def in
      record {
        records-most = leb-true _ _ (and_left a (b && (d && (e && f))) h);
        xs-most = leb-true _ _ (and_left b (d && (e && f)) bdef);
        ys-count = eqb-true _ _ (and_left d (e && f) def);
        vertices-count = eqb-true _ _ (and_left e f ef);
        none_short = not-true _ (and_right e f ef);
      }

  pub lists_agree : length records ≤ record_room most_stations → length xs ≤ vertex_room most_stations → length ys ≡ length xs → vertices_in records ≡ length xs
      → is_listed records xs ys ≡ not (some_short records)
  lists_agree a b d e = rw (le-leb _ _ a, le-leb _ _ b, eq-eqb _ _ d, eq-eqb _ _ e)

-- No coordinate is far.
pub none_far : (xs : List ℕ) → some_far xs ≡ false → (i : ℕ) → i < length xs → get_or xs i 0 ≤ most_spot
none_far xs h i l = ltb-false most_spot (get_or xs i 0) (none_found (λ (i : ℕ). ltb most_spot (get_or xs i 0)) (length xs) h i l)
