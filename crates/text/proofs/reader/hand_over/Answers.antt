-- `hand_over` meets its contract. Assumes nothing.
use mathlib.Core.Path.{refl, sym, ap, ◌∙◌}
use mathlib.Core.List.{List, ◌++◌}
use lib.IntN.{ℤ}
use lib.ListN.{length, drop}
use Rattle.rendering.specs.Values.{levels_in, filed_by}
use Rattle.text.proofs.ReaderLaws.{housed_by, rooms, levels-laid}
use Rattle.text.proofs.reader.hand_over.Goals as goal

pub returns-else-has_room : goal.returns-else-has_room
returns-else-has_room c =
    let a = c.args in record {
      value = housed_by a.values.now (length a.x.now) (length a.y.now) (length a.z.now) (length a.tags.now) (length a.levels.now)
          (sym c.has_room.ensures ∙ c.if-has_room.false);
      x_after = refl;
      y_after = refl;
      z_after = refl;
      tags_after = refl;
      levels_after = refl;
    }

pub fill_rooms-requires : goal.fill_rooms-requires
fill_rooms-requires c = record { laid = c.requires; rooms = rooms (sym c.has_room.ensures ∙ c.if-has_room.true) }

pub returns-then-has_room : goal.returns-then-has_room
unfolding filed_by
returns-then-has_room c =
    let a = c.args in
    let r = c.fill_rooms.ensures in
    let levels = ap (λ (t : List ℤ). t ++ drop (levels_in a.values.now) a.levels.now) (levels-laid a.values.now) in record {
      value = housed_by a.values.now (length a.x.now) (length a.y.now) (length a.z.now) (length a.tags.now) (length a.levels.now)
          (sym c.has_room.ensures ∙ c.if-has_room.true);
      x_after = r.x_after;
      y_after = r.y_after;
      z_after = r.z_after;
      tags_after = r.tags_after;
      levels_after = r.levels_after ∙ levels;
    }
