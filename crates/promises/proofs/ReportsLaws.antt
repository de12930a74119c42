-- The served ground report: what holds of any mesh holds of those of both kinds, and the call gives its figures. Assumes nothing.
use mathlib.Core.Path.{ap}
use Rattle.mesh.specs.Kinds.{triangles_of}
use Rattle.mesh.proofs.KindLaws.{kind-mesh}
use Rattle.parcels.proofs.ReportLaws.{report_of}
use Rattle.promises.specs.Outcomes.{served_call}
use Rattle.promises.specs.Reports.{Reports}
use Rattle.promises.proofs.OutcomeLaws.{done-outcome}

pub reports : Reports
reports =
    record {
      any = report_of;
      kinds = λ s fit kind. report_of s fit (triangles_of kind s) (kind-mesh kind s fit);
      given = λ s kind level style old h.
          let e = done-outcome (served_call s kind level style old) h in
          record { served = ap (λ o. o.lent.served) e; unserved = ap (λ o. o.lent.unserved) e };
    }
