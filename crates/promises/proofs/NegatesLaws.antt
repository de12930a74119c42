-- What becomes of a survey with every height negated, put together. Assumes nothing.
use Rattle.mirror.proofs.SlopeLaws.{slopes-negated}
use Rattle.mirror.proofs.MeshLaws.{mesh_same}
use Rattle.mirror.proofs.CurveLaws.{side-negated}
use Rattle.mirror.proofs.JobLaws.{checked-negated, heighted-mirrored}
use Rattle.mirror.proofs.FloatLaws.{sign_bit}
use Rattle.promises.specs.Negates.{Negates}

pub negates : Negates
negates =
    record {
      slopes = slopes-negated;
      checks = checked-negated;
      mesh = mesh_same;
      curves = side-negated;
      heights = heighted-mirrored;
      sign = sign_bit;
    }
