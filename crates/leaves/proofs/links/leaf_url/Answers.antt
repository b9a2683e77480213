-- `links::leaf_url` meets its contract: the call's answer, as a number. Assumes nothing.
use mathlib.Core.Path.{ap, sym, ◌∙◌}
use lib.ListN.{length}
use lib.Seq.{length-take-le}
use Rattle.leaf.specs.Leaf.{one}
use Rattle.leaves.proofs.links.leaf_url.Goals as goal

pub returns : goal.returns
returns c = c.one.ensures ∙ ap one (sym (length-take-le c.url_length-n.result _ c.url_length-n.ensures.1) ∙ ap length c.url_length-n.ensures.0)
