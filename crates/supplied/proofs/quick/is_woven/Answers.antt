-- `is_woven` meets its contract: what its four tests say together. Assumes nothing.
use Rattle.survey.specs.Survey.{survey}
use Rattle.supplied.proofs.QuickLaws.{quick-woven}
use Rattle.supplied.proofs.quick.is_woven.Goals as goal
use Rattle.supplied.proofs.quick.is_woven.Goals.{then-are_stations, else-are_stations, then-are_positive, else-are_positive}

pub returns : goal.returns
returns c =
    λ e.
    let a = c.args in
    elim c.if-are_positive.branch [
      | then-are_positive w ↦
          elim c.if-are_stations.branch [
            | then-are_stations v ↦
                quick-woven (survey a.x.now a.y.now a.z.now) c.requires.0 a.t a.triangles.now _
                (c.are_stations.ensures (cc)) (v.are_positive.ensures (cc)) (w.are_named.ensures (cc)) c.put_outline.ensures (c.are_sewn.ensures e)
            | else-are_stations v ↦ cc
          ]
      | else-are_positive w ↦ cc
    ]
