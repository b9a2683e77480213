-- `lines::leaf_blank` meets its contract: the call's answer, as a number. Assumes nothing.
use mathlib.Core.Path.{ap, ◌∙◌}
use Rattle.leaf.specs.Leaf.{one}
use Rattle.text.specs.Bytes.{bit}
use Rattle.leaves.proofs.lines.leaf_blank.Goals as goal

pub returns : goal.returns
returns c = c.one.ensures ∙ ap one (c.bit.ensures ∙ ap bit c.is_blank-b.ensures)
