-- `read` meets its contract. Assumes nothing.
use mathlib.Core.Path.{refl, sym, ap, ◌∙◌}
use native.Mathlib.Omega.{arith}
use lib.Seq.{length-take-le}
use Rattle.forms.proofs.FormLaws.{read_back}
use Rattle.std.specs.Prelude.{Err}
use Rattle.formats.specs.Surveys.{survey1}
use Rattle.formats.proofs.FormatLaws.{survey1-sound}
use Rattle.rendering.specs.Scan.{scanned_by}
use Rattle.text.proofs.ReaderLaws.{laid, scan-long, scan-short}
use Rattle.text.proofs.reader.read.Goals as goal

pub returns-then-text-gt-MOST_TEXT : goal.returns-then-text-gt-MOST_TEXT
returns-then-text-gt-MOST_TEXT c =
    record {
      value = rw (scan-long _ c.if-text-gt-MOST_TEXT.true) (refl);
      x_after = refl;
      y_after = refl;
      z_after = refl;
      tags_after = refl;
      levels_after = refl;
    }

pub slice_bounds-values-end : goal.slice_bounds-values-end
slice_bounds-values-end c =
    let k = c.values_of in
    omega (arith, rw c.in-Ok.is at k.ensures.result_bound, k.auto.values)

pub slice_bounds-hand_over-end : goal.slice_bounds-hand_over-end
slice_bounds-hand_over-end c =
    let k = c.values_of in
    sym (length-take-le _ k.new.values (omega (arith, rw c.in-Ok.is at k.ensures.result_bound, k.auto.values)))

pub hand_over-requires : goal.hand_over-requires
hand_over-requires c = laid _ (read_back survey1 _ _ survey1-sound (sym (rw c.in-Ok.is at c.values_of.ensures.values_after))).0

pub returns-in-Err : goal.returns-in-Err
returns-in-Err c =
    let s = scan-short _ c.if-text-gt-MOST_TEXT.false ∙ ap scanned_by (sym (rw c.in-Err.is at c.values_of.ensures.values_after)) in
    record {
      value = rw s (ap Err c.fault_at.ensures);
      x_after = refl;
      y_after = refl;
      z_after = refl;
      tags_after = refl;
      levels_after = refl;
    }

pub returns-in-Ok : goal.returns-in-Ok
returns-in-Ok c =
    let e = rw c.in-Ok.is at c.values_of.ensures.values_after in
    let s = scan-short _ c.if-text-gt-MOST_TEXT.false ∙ ap scanned_by (sym e) in
    record {
      value = rw s c.hand_over.ensures.value;
      x_after = rw s c.hand_over.ensures.x_after;
      y_after = rw s c.hand_over.ensures.y_after;
      z_after = rw s c.hand_over.ensures.z_after;
      tags_after = rw s c.hand_over.ensures.tags_after;
      levels_after = rw s c.hand_over.ensures.levels_after;
    }
