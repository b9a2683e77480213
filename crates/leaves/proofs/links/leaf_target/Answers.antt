-- `links::leaf_target` meets its contract: the target, as numbers. Assumes nothing.
use mathlib.Core.Path.{ap, ◌∙◌}
use Rattle.leaf.specs.Link.{target_numbers}
use Rattle.leaves.proofs.links.leaf_target.Goals as goal

pub returns : goal.returns
returns c = c.of_target.ensures ∙ ap target_numbers c.read_target-found.ensures
