-- The three demands on Thawpebble, in their order, as one record over the functions of its door. Assumes nothing.
--
-- Each function's code is proved to meet its contract, and the contract says that a call leaves what `Outcomes` says, by the tests of
-- `Tests` in their order: what else is promised is of those outcomes, and of the definitions that they name.
use Rattle.thawpebble.proofs.thawpebble_check.Statement as check
use Rattle.thawpebble.proofs.thawpebble_mesh.Statement as mesh
use Rattle.thawpebble.proofs.thawpebble_slopes.Statement as slopes
use Rattle.thawpebble.proofs.thawpebble_height.Statement as height
use Rattle.thawpebble.proofs.thawpebble_lines.Statement as lines
use Rattle.thawpebble.proofs.thawpebble_served.Statement as served
use Rattle.thawpebble.proofs.over.thawpebble_check_mesh.Statement as check-mesh
use Rattle.thawpebble.proofs.over.thawpebble_height_over.Statement as height-over
use Rattle.thawpebble.proofs.over.thawpebble_lines_over.Statement as lines-over
use Rattle.thawpebble.proofs.thawpebble_read.Statement as read
use Rattle.thawpebble.proofs.thawpebble_write.Statement as write
use Rattle.survey.specs.Fit.{Fit}
use Rattle.survey.specs.Survey.{Survey}
use Rattle.promises.specs.Handed.{Handed}
use Rattle.promises.specs.Does.{DoesCheck, DoesMesh, DoesSlopes, DoesHeight, DoesLines, DoesServed, DoesCheckMesh, DoesHeightOver, DoesLinesOver, DoesRead, DoesWrite}
use Rattle.promises.specs.Refusing.{Refusing}
use Rattle.promises.specs.Accepts.{AcceptsAll, AcceptsOnly}
use Rattle.promises.specs.Made.{Made, Numbers}
use Rattle.promises.specs.Supplied.{Supplied}
use Rattle.promises.specs.Text.{Text}
use Rattle.promises.specs.Negates.{Negates}
use Rattle.promises.specs.Crossing.{Crossing}
use Rattle.promises.specs.Grounds.{Grounds}
use Rattle.promises.specs.Reports.{Reports}
use Rattle.promises.specs.KnownMaps.{AllHold, known_maps}

-- The code of each function meets its contract: `statement` is what the checker takes as proof of it, over any memory M.
pub record Proved : Type 2 where
  pub check : {M : Type 1} → check.statement M
  pub mesh : {M : Type 1} → mesh.statement M
  pub slopes : {M : Type 1} → slopes.statement M
  pub height : {M : Type 1} → height.statement M
  pub lines : {M : Type 1} → lines.statement M
  pub served : {M : Type 1} → served.statement M
  pub check-mesh : {M : Type 1} → check-mesh.statement M
  pub height-over : {M : Type 1} → height-over.statement M
  pub lines-over : {M : Type 1} → lines-over.statement M
  pub read : {M : Type 1} → read.statement M
  pub write : {M : Type 1} → write.statement M

-- 'Any bytes and any numbers may be handed in. Each call either does its work or gives a numbered refusal, exactly when that document says.
-- A refusal changes nothing in any lent buffer.'
pub record One : Type 1 where
  pub handed : Handed
  pub check : DoesCheck
  pub mesh : DoesMesh
  pub slopes : DoesSlopes
  pub height : DoesHeight
  pub lines : DoesLines
  pub served : DoesServed
  pub check-mesh : DoesCheckMesh
  pub height-over : DoesHeightOver
  pub lines-over : DoesLinesOver
  pub read : DoesRead
  pub write : DoesWrite
  pub refusing : Refusing

-- Who is accepted, and what is then made.
pub record Two : Type 0 where
  pub accepts : AcceptsAll
  pub accepts_only : AcceptsOnly
  pub made : (s : Survey) → Fit s → Made s
  pub supplied : (s : Survey) → Fit s → Supplied s
  pub numbers : Numbers
  pub text : Text
  pub negates : Negates

pub record Demands : Type 2 where
  pub proved : Proved
  pub one : One
  pub two : Two
  pub three : Crossing
  -- And what a reader of the map may rely on: document 02, L11.
  pub grounds : Grounds
  -- And who orders by the ground that is served: document 02, L12.
  pub reports : Reports
  pub known-maps : AllHold known_maps
