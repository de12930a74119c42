-- `put_heading` meets its contract: the room suffices for the two lines of either heading. Assumes nothing.
use mathlib.Core.Path.{◌∙◌}
use lib.ListN.{length}
use Rattle.contour.specs.Contour.{heading_of}
use Rattle.report.specs.Report.{heading_of as report_heading}
use Rattle.report.proofs.RoomLaws.{heading-done as report-done}
use Rattle.program.proofs.DoneLaws.{heading-done, written}
use Rattle.program.proofs.put_heading.Goals as goal

pub returns-then-report : goal.returns-then-report
returns-then-report c =
    let a = c.args in
    let room = a.room.now in
    let w = c.heading in
    let done = w.ensures.value ∙ report-done a.style (length room) c.requires.0 c.requires.1 in
    let both = written (report_heading a.style) room done c.bytes_of.ensures w.ensures.room_after in
    record { value = rw c.if-report.true both.0; room_after = rw c.if-report.true both.1 }

pub returns : goal.returns
returns c =
    let a = c.args in
    let room = a.room.now in
    let w = c.heading-2 in
    let done = w.ensures.value ∙ heading-done a.style (length room) c.requires.0 c.requires.1 in
    let both = written (heading_of a.style) room done c.bytes_of-2.ensures w.ensures.room_after in
    record { value = rw c.if-report.false both.0; room_after = rw c.if-report.false both.1 }
