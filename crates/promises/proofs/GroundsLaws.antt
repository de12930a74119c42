-- Ground truly covered: what holds of any mesh holds of those of both kinds and of those that are handed in. Assumes nothing.
use Rattle.mesh.specs.Kinds.{triangles_of}
use Rattle.mesh.proofs.KindLaws.{kind-mesh}
use Rattle.woven.specs.Accepted.{supplied_in}
use Rattle.woven.proofs.AcceptedLaws.{accepted-mesh}
use Rattle.ground.proofs.GroundLaws.{ground}
use Rattle.ground.proofs.MeetingLaws.{proper-apart, proper_back, apart-proper}
use Rattle.promises.specs.Grounds.{Grounds}

pub grounds : Grounds
grounds =
    record {
      any = ground;
      kinds = λ s fit kind. ground s (triangles_of kind s) (kind-mesh kind s fit);
      supplied = λ s fit l e. ground s (supplied_in l) ((accepted-mesh s fit l).0 e).1;
      proper = λ p q u v. (λ c. (proper-apart p q u v c, proper-apart u v p q (proper_back c)), λ h. apart-proper h.0 h.1);
    }
