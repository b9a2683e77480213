-- `own::next_own` meets its contract: the region that `next_region` finds is placed, and the walk goes over the lines before it. Assumes nothing.
use Rattle.regions.proofs.CursorLaws.{own-found}
use Rattle.regions.proofs.own.next_own.Goals as goal

pub returns : goal.returns
returns c = own-found c.args.w c.requires c.in_ok-region.ensures.0 (rw c.line-closer.ensures.end_value.1) c.own_after-own.ensures
