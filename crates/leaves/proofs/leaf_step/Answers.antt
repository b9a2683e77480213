-- `leaves::leaf_step` meets its contract: the step, as numbers. Assumes nothing.
use mathlib.Core.Path.{◌∙◌}
use Rattle.leaves.proofs.leaf_step.Goals as goal

pub returns : goal.returns
returns c = c.of_step.ensures ∙ rw (c.step-w.ensures.0, c.step-w.ensures.1, c.state-state.ensures)
