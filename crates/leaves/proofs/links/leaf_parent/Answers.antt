-- `links::leaf_parent` meets its contract: the call's answer, as a number. Assumes nothing.
use mathlib.Core.Path.{ap, sym, ◌∙◌}
use lib.ListN.{length}
use lib.Seq.{length-take-le}
use Rattle.leaf.specs.Leaf.{one}
use Rattle.leaves.proofs.links.leaf_parent.Goals as goal

pub returns : goal.returns
returns c = c.one.ensures ∙ ap one (sym (length-take-le c.parent_dir-n.result _ c.parent_dir-n.ensures.1) ∙ ap length c.parent_dir-n.ensures.0)
