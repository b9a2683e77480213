-- `links::leaf_link` meets its contract: the link that was found, as numbers. Assumes nothing.
use Rattle.leaves.proofs.links.leaf_link.Goals as goal

pub returns : goal.returns
returns c = record { found = c.next_link-found.result; next = rw c.at_most.ensures at c.next_link-found.ensures; same = c.of_link.ensures }
