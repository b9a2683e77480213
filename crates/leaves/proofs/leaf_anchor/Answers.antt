-- `leaves::leaf_anchor` meets its contract: the call's answer, as a number. Assumes nothing.
use mathlib.Core.Path.{ap, ◌∙◌}
use Rattle.leaf.specs.Leaf.{one}
use Rattle.leaves.proofs.leaf_anchor.Goals as goal

pub returns : goal.returns
returns c = record { answer_after = c.one.ensures ∙ ap one c.put-n.ensures.0; out_after = c.put-n.ensures.1 }
