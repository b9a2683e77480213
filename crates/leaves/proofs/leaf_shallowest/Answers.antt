-- `leaves::leaf_shallowest` meets its contract: the call's answer, as a number. Assumes nothing.
use mathlib.Core.Path.{ap, ◌∙◌}
use Rattle.leaf.specs.Leaf.{one, top_number}
use Rattle.leaves.proofs.leaf_shallowest.Goals as goal

pub returns : goal.returns
returns c = c.one.ensures ∙ ap one (c.of_top.ensures ∙ ap top_number c.shallowest-found.ensures.value)
