-- `anchor::same_anchor` meets its contract: the bytes of both, compared one after the other. Assumes nothing.
use Rattle.anchor.proofs.AnchorLaws.{equals_by}
use Rattle.anchor.proofs.same_anchor.Goals as goal

pub returns : goal.returns
returns c = rw (← c.bytes_of.ensures, ← c.bytes_of-2.ensures) (equals_by _ _ _ c.eq.ensures.ran)
