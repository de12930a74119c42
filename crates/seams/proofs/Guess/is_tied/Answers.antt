-- `is_tied` meets its contract: the guess says which of two tests decides. Assumes nothing.
use lib.ListN.{get_or}
use Rattle.seams.specs.Sewn.{is_matched, is_lone}
use Rattle.seams.proofs.TestLaws.{less_by, far_by}
use Rattle.seams.proofs.Guess.is_tied.Goals as goal

pub returns-then-g-self : goal.returns-then-g-self
returns-then-g-self c =
    let a = c.args in
    let s = a.self.now in
    let g = get_or s.twin.now a.h.0 0 in
    less_by g s.m (is_matched s.triangles.now s.twin.now g a.h.0 a.b.0) (is_lone s.next.now s.first.now a.h.0 a.a.0 a.b.0) _
    c.if-g-self.true c.is_matched.ensures

pub returns-else-g-self : goal.returns-else-g-self
returns-else-g-self c =
    let a = c.args in
    let s = a.self.now in
    let g = get_or s.twin.now a.h.0 0 in
    far_by g s.m (is_matched s.triangles.now s.twin.now g a.h.0 a.b.0) (is_lone s.next.now s.first.now a.h.0 a.a.0 a.b.0) _
    c.if-g-self.false c.is_lone.ensures
