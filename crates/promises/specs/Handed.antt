-- 'Any bytes and any numbers may be handed in': no function of the door asks anything of its arguments. Assumes nothing.
--
-- a has a function's parameters in their order. `Asked` is what the checker makes each caller show: the function's `requires`.
use borrow.Fn.Kinds.{Dens}
use contract.Lifetimes.{Lfts}
use Rattle.thawpebble.proofs.thawpebble_check.Kinds as check-kinds
use Rattle.thawpebble.proofs.thawpebble_check.Reads as check
use Rattle.thawpebble.proofs.thawpebble_mesh.Kinds as mesh-kinds
use Rattle.thawpebble.proofs.thawpebble_mesh.Reads as mesh
use Rattle.thawpebble.proofs.thawpebble_slopes.Kinds as slopes-kinds
use Rattle.thawpebble.proofs.thawpebble_slopes.Reads as slopes
use Rattle.thawpebble.proofs.thawpebble_height.Kinds as height-kinds
use Rattle.thawpebble.proofs.thawpebble_height.Reads as height
use Rattle.thawpebble.proofs.thawpebble_lines.Kinds as lines-kinds
use Rattle.thawpebble.proofs.thawpebble_lines.Reads as lines
use Rattle.thawpebble.proofs.thawpebble_served.Kinds as served-kinds
use Rattle.thawpebble.proofs.thawpebble_served.Reads as served
use Rattle.thawpebble.proofs.over.thawpebble_check_mesh.Kinds as check-mesh-kinds
use Rattle.thawpebble.proofs.over.thawpebble_check_mesh.Reads as check-mesh
use Rattle.thawpebble.proofs.over.thawpebble_height_over.Kinds as height-over-kinds
use Rattle.thawpebble.proofs.over.thawpebble_height_over.Reads as height-over
use Rattle.thawpebble.proofs.over.thawpebble_lines_over.Kinds as lines-over-kinds
use Rattle.thawpebble.proofs.over.thawpebble_lines_over.Reads as lines-over
use Rattle.thawpebble.proofs.thawpebble_read.Kinds as read-kinds
use Rattle.thawpebble.proofs.thawpebble_read.Reads as read
use Rattle.thawpebble.proofs.thawpebble_write.Kinds as write-kinds
use Rattle.thawpebble.proofs.thawpebble_write.Reads as write

pub record Handed : Type 1 where
  pub check : (κs : Lfts 4) (a : Dens κs check-kinds.ps) → check.Asked κs a
  pub mesh : (κs : Lfts 6) (a : Dens κs mesh-kinds.ps) → mesh.Asked κs a
  pub slopes : (κs : Lfts 5) (a : Dens κs slopes-kinds.ps) → slopes.Asked κs a
  pub height : (κs : Lfts 8) (a : Dens κs height-kinds.ps) → height.Asked κs a
  pub lines : (κs : Lfts 10) (a : Dens κs lines-kinds.ps) → lines.Asked κs a
  pub served : (κs : Lfts 8) (a : Dens κs served-kinds.ps) → served.Asked κs a
  pub check-mesh : (κs : Lfts 5) (a : Dens κs check-mesh-kinds.ps) → check-mesh.Asked κs a
  pub height-over : (κs : Lfts 9) (a : Dens κs height-over-kinds.ps) → height-over.Asked κs a
  pub lines-over : (κs : Lfts 11) (a : Dens κs lines-over-kinds.ps) → lines-over.Asked κs a
  pub read : (κs : Lfts 9) (a : Dens κs read-kinds.ps) → read.Asked κs a
  pub write : (κs : Lfts 7) (a : Dens κs write-kinds.ps) → write.Asked κs a
