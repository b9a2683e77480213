-- `earlier` meets its contract. The invariant: the place is that of the first among the members left. Assumes nothing.
use Rattle.anchor.specs.Anchor.{slug}
use Rattle.earlier.proofs.EarlierLaws.{Searched}
use Rattle.earlier.proofs.earlier.Given as goal

abbrev pub invariant-loop-member : goal.invariant-loop-member
invariant-loop-member l = Searched l.index l.contents l.work l.members l.name (slug l.heading) l.member-index
