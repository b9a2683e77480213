-- `links::leaf_resolves` meets its contract: the call's answer, as a number. Assumes nothing.
use mathlib.Core.Path.{ap, ◌∙◌}
use Rattle.leaf.specs.Leaf.{one}
use Rattle.text.specs.Bytes.{bit}
use Rattle.leaves.proofs.links.leaf_resolves.Goals as goal

pub returns : goal.returns
returns c = c.one.ensures ∙ ap one (c.bit.ensures ∙ ap bit c.resolves_to-b.ensures)
