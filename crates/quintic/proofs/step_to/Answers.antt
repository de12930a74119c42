-- `step_to` meets its contract: the difference of two coordinates fits an i32. Assumes nothing.
use mir.Syntax.{w32}
use Rattle.whole.proofs.Expression.{nat, ◌⊖◌, holds, fits}
use Rattle.survey.specs.Limits.{most_coordinate}
use Rattle.quintic.proofs.step_to.Goals as goal

pub overflow_sub-result : goal.overflow_sub-result
overflow_sub-result c = fits w32 (nat c.args.to most_coordinate ⊖ nat c.args.from most_coordinate) (c.requires.1, c.requires.0) tt

pub returns : goal.returns
returns c = holds w32 (nat c.args.to most_coordinate ⊖ nat c.args.from most_coordinate) (c.requires.1, c.requires.0) tt
