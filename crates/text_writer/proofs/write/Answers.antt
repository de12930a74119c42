-- `write` meets its contract: at each return the tests that led there say which case of the answer holds; only the last one writes. Assumes nothing.
use mathlib.Core.Path.{◌≡◌, sym, ap, ◌∙◌}
use mathlib.Core.Bool.{Bool, true, false, cond, not, ◌&&◌}
use mathlib.Core.List.{◌++◌}
use Prim.Native.Nat.{ℕ, ◌≤◌}
use native.Mathlib.Omega.{arith}
use borrow.Author.Tests.{eq-eqb, ne_eqb, le-leb, lt-leb, lt-ltb, le-ltb}
use lib.Dec.{ltb}
use lib.ListN.{length, drop}
use Rattle.lists.specs.Lowest.{some, found}
use Rattle.lists.proofs.BelowLaws.{found_at, none_below}
use Rattle.survey.specs.Rooms.{tag_room}
use Rattle.survey.specs.Checks.{is_counted, is_out_of_range}
use Rattle.survey.specs.declared.refusal.Refusal.TheVariants.{Number, Room}
use Rattle.std.specs.Prelude.{None, Ok, Err}
use Rattle.pouring.proofs.PouredLaws.{poured-whole}
use Rattle.formats.specs.Lines.{is_style}
use Rattle.rendering.specs.Filed.{Filed, filed, stations, count}
use Rattle.rendering.specs.Rendering.{rendered}
use Rattle.rendering.specs.Form.{InForm}
use Rattle.rendering.specs.Writer.{is_listed, is_wrong_tag, is_used_tag, is_level_list, write_of}
use Rattle.rendering.proofs.TextLaws.{done-form}
use Rattle.text_writer.proofs.write.Goals as goal
use Rattle.text_writer.proofs.write.Goals.{then-not-is_counted-via-then-not-is_counted, then-not-is_counted-via-else-not-is_counted+then-tags-tag_room, then-style-gt1-via-then-style-gt1, then-style-gt1-via-else-style-gt1+then-not-is_level_list}

-- What each test says once it is passed.
is_list : (s : Filed) → is_counted (stations s) ≡ true → length s.tags ≡ tag_room (count s) → is_listed s ≡ true
is_list s h e = rw (h, eq-eqb _ _ e)

none_passes : (p : ℕ → Bool) (n : ℕ) → found p n ≡ None → some p n ≡ false
none_passes p n e = le-ltb _ _ (none_below p n e)

record Tagged (s : Filed) : Type 0 where
  pub listed : is_listed s ≡ true
  pub in_range : some (is_out_of_range (stations s)) (count s) ≡ false
  pub tagged : some (is_wrong_tag s.tags) (count s) ≡ false
  pub apart : some (is_used_tag s.tags) (count s) ≡ false

tagged_by : (s : Filed) → is_counted (stations s) ≡ true → length s.tags ≡ tag_room (count s)
    → found (is_out_of_range (stations s)) (count s) ≡ None → found (is_wrong_tag s.tags) (count s) ≡ None → found (is_used_tag s.tags) (count s) ≡ None → Tagged s
tagged_by s h e range wrong used =
    record {
      listed = is_list s h e;
      in_range = none_passes (is_out_of_range (stations s)) (count s) range;
      tagged = none_passes (is_wrong_tag s.tags) (count s) wrong;
      apart = none_passes (is_used_tag s.tags) (count s) used;
    }

past_tags : (s : Filed) → Tagged s → (room : ℕ)
    → write_of s room ≡ cond (not (is_style s.style && is_level_list s.levels)) (Err Number)
    (cond (ltb room (length (rendered s))) (Err Room) (Ok (length (rendered s))))
unfolding write_of
past_tags s h room = rw (h.listed, h.in_range, h.tagged, h.apart)

done : (s : Filed) → Tagged s → (is_style s.style && is_level_list s.levels) ≡ true → (room : ℕ) → length (rendered s) ≤ room
    → write_of s room ≡ Ok (length (rendered s))
done s h numbers room long = rw (past_tags s h room, numbers, le-ltb room (length (rendered s)) long)

in_form : (s : Filed) → Tagged s → (is_style s.style && is_level_list s.levels) ≡ true → InForm s
in_form s h numbers = let n = length (rendered s) in done-form s n n (done s h numbers n (omega arith))

pub returns-then-not-is_counted-clause-value : goal.returns-then-not-is_counted-clause-value
unfolding write_of
returns-then-not-is_counted-clause-value c =
    elim c.then-not-is_counted.branch [
      | then-not-is_counted-via-then-not-is_counted w ↦ rw (← c.is_counted.ensures, w.if-not-is_counted.true)
      | then-not-is_counted-via-else-not-is_counted+then-tags-tag_room w ↦
          let is_count = sym c.is_counted.ensures ∙ w.if-not-is_counted.false in
          rw (is_count, ne_eqb _ _ (λ e. w.if-tags-tag_room.true (e ∙ sym w.tag_room.ensures)))
    ]

pub returns-in-Some-clause-value : goal.returns-in-Some-clause-value
unfolding write_of
returns-in-Some-clause-value c =
    let s = filed c.args.style c.args.tags.now c.args.x.now c.args.y.now c.args.z.now c.args.levels.now in
    let listed = is_list s (sym c.is_counted.ensures ∙ c.if-not-is_counted.false) (c.if-tags-tag_room.false ∙ c.tag_room.ensures) in
    let f = found_at (is_out_of_range (stations s)) (count s) (sym c.lowest_out_of_range.ensures ∙ c.in-Some.is) in
    rw (listed, lt-ltb _ _ f.below, f.is)

pub returns-in-Some-lowest_wrong_tag-clause-value : goal.returns-in-Some-lowest_wrong_tag-clause-value
unfolding write_of
returns-in-Some-lowest_wrong_tag-clause-value c =
    let s = filed c.args.style c.args.tags.now c.args.x.now c.args.y.now c.args.z.now c.args.levels.now in
    let listed = is_list s (sym c.is_counted.ensures ∙ c.if-not-is_counted.false) (c.if-tags-tag_room.false ∙ c.tag_room.ensures) in
    let in_range = none_passes (is_out_of_range (stations s)) (count s) (sym c.lowest_out_of_range.ensures ∙ c.in_default.is) in
    let f = found_at (is_wrong_tag s.tags) (count s) (sym c.lowest_wrong_tag.ensures ∙ c.in-Some-lowest_wrong_tag.is) in
    rw (listed, in_range, lt-ltb _ _ f.below, f.is)

pub returns-in-Some-lowest_used_tag-clause-value : goal.returns-in-Some-lowest_used_tag-clause-value
unfolding write_of
returns-in-Some-lowest_used_tag-clause-value c =
    let s = filed c.args.style c.args.tags.now c.args.x.now c.args.y.now c.args.z.now c.args.levels.now in
    let listed = is_list s (sym c.is_counted.ensures ∙ c.if-not-is_counted.false) (c.if-tags-tag_room.false ∙ c.tag_room.ensures) in
    let in_range = none_passes (is_out_of_range (stations s)) (count s) (sym c.lowest_out_of_range.ensures ∙ c.in_default.is) in
    let tagged = none_passes (is_wrong_tag s.tags) (count s) (sym c.lowest_wrong_tag.ensures ∙ c.in_default-lowest_wrong_tag.is) in
    let f = found_at (is_used_tag s.tags) (count s) (sym c.lowest_used_tag.ensures ∙ c.in-Some-lowest_used_tag.is) in
    rw (listed, in_range, tagged, lt-ltb _ _ f.below, f.is)

pub returns-then-style-gt1-clause-value : goal.returns-then-style-gt1-clause-value
returns-then-style-gt1-clause-value c =
    let s = filed c.args.style c.args.tags.now c.args.x.now c.args.y.now c.args.z.now c.args.levels.now in
    let h = tagged_by s (sym c.is_counted.ensures ∙ c.if-not-is_counted.false) (c.if-tags-tag_room.false ∙ c.tag_room.ensures) (sym c.lowest_out_of_range.ensures ∙ c.in_default.is) (sym c.lowest_wrong_tag.ensures ∙ c.in_default-lowest_wrong_tag.is) (sym c.lowest_used_tag.ensures ∙ c.in_default-lowest_used_tag.is) in
    elim c.then-style-gt1.branch [
      | then-style-gt1-via-then-style-gt1 w ↦ rw (past_tags s h _, lt-leb _ _ w.if-style-gt1.true)
      | then-style-gt1-via-else-style-gt1+then-not-is_level_list w ↦
          rw (past_tags s h _, le-leb _ _ w.if-style-gt1.false, ← w.is_level_list.ensures, w.if-not-is_level_list.true)
    ]

pub put_text-bytes-requires : goal.put_text-bytes-requires
put_text-bytes-requires c =
    let s = filed c.args.style c.args.tags.now c.args.x.now c.args.y.now c.args.z.now c.args.levels.now in
    let h = tagged_by s (sym c.is_counted.ensures ∙ c.if-not-is_counted.false) (c.if-tags-tag_room.false ∙ c.tag_room.ensures) (sym c.lowest_out_of_range.ensures ∙ c.in_default.is) (sym c.lowest_wrong_tag.ensures ∙ c.in_default-lowest_wrong_tag.is) (sym c.lowest_used_tag.ensures ∙ c.in_default-lowest_used_tag.is) in
    let numbers : (is_style s.style && is_level_list s.levels) ≡ true = rw (le-leb _ _ c.if-style-gt1.false, ← c.is_level_list.ensures) c.if-not-is_level_list.false in
    in_form s h numbers

pub returns-then-text-bytes-clause-value : goal.returns-then-text-bytes-clause-value
returns-then-text-bytes-clause-value c =
    let s = filed c.args.style c.args.tags.now c.args.x.now c.args.y.now c.args.z.now c.args.levels.now in
    let h = tagged_by s (sym c.is_counted.ensures ∙ c.if-not-is_counted.false) (c.if-tags-tag_room.false ∙ c.tag_room.ensures) (sym c.lowest_out_of_range.ensures ∙ c.in_default.is) (sym c.lowest_wrong_tag.ensures ∙ c.in_default-lowest_wrong_tag.is) (sym c.lowest_used_tag.ensures ∙ c.in_default-lowest_used_tag.is) in
    let numbers : (is_style s.style && is_level_list s.levels) ≡ true = rw (le-leb _ _ c.if-style-gt1.false, ← c.is_level_list.ensures) c.if-not-is_level_list.false in
    rw (past_tags s h _, numbers, ← c.put_text-bytes.ensures.0, lt-ltb _ _ c.if-text-bytes.true)

pub put_text-requires : goal.put_text-requires
put_text-requires c =
    let s = filed c.args.style c.args.tags.now c.args.x.now c.args.y.now c.args.z.now c.args.levels.now in
    let h = tagged_by s (sym c.is_counted.ensures ∙ c.if-not-is_counted.false) (c.if-tags-tag_room.false ∙ c.tag_room.ensures) (sym c.lowest_out_of_range.ensures ∙ c.in_default.is) (sym c.lowest_wrong_tag.ensures ∙ c.in_default-lowest_wrong_tag.is) (sym c.lowest_used_tag.ensures ∙ c.in_default-lowest_used_tag.is) in
    let numbers : (is_style s.style && is_level_list s.levels) ≡ true = rw (le-leb _ _ c.if-style-gt1.false, ← c.is_level_list.ensures) c.if-not-is_level_list.false in
    in_form s h numbers

pub returns-clause-value : goal.returns-clause-value
returns-clause-value c =
    let s = filed c.args.style c.args.tags.now c.args.x.now c.args.y.now c.args.z.now c.args.levels.now in
    let h = tagged_by s (sym c.is_counted.ensures ∙ c.if-not-is_counted.false) (c.if-tags-tag_room.false ∙ c.tag_room.ensures) (sym c.lowest_out_of_range.ensures ∙ c.in_default.is) (sym c.lowest_wrong_tag.ensures ∙ c.in_default-lowest_wrong_tag.is) (sym c.lowest_used_tag.ensures ∙ c.in_default-lowest_used_tag.is) in
    let numbers : (is_style s.style && is_level_list s.levels) ≡ true = rw (le-leb _ _ c.if-style-gt1.false, ← c.is_level_list.ensures) c.if-not-is_level_list.false in
    let old = c.args.text.now in
    let bytes = c.put_text-bytes.ensures.0 in
    let long : length (rendered s) ≤ length old = omega (arith, bytes, c.if-text-bytes.false) in
    ap Ok bytes ∙ sym (done s h numbers (length old) long)

pub returns-clause-text_after : goal.returns-clause-text_after
returns-clause-text_after c =
    let s = filed c.args.style c.args.tags.now c.args.x.now c.args.y.now c.args.z.now c.args.levels.now in
    let old = c.args.text.now in
    let bytes = c.put_text-bytes.ensures.0 in
    let long : length (rendered s) ≤ length old = omega (arith, bytes, c.if-text-bytes.false) in
    c.put_text.ensures.1 ∙ poured-whole (rendered s) old long ∙ ap (λ (k : ℕ). rendered s ++ drop k old) (sym bytes)
