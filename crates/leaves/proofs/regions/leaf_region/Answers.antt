-- `regions::leaf_region` meets its contract: the region that was found, as numbers. Assumes nothing.
use Rattle.leaves.proofs.regions.leaf_region.Goals as goal

pub returns : goal.returns
returns c = record { found = c.next_from-found.result; next = c.next_from-found.ensures; same = c.of_region.ensures }
