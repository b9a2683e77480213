-- `prepare_all` meets its contract. The invariant: the members up to a place are prepared. Assumes nothing.
use Rattle.preparation.proofs.PrepareLaws.{SoFar}
use Rattle.preparation.proofs.prepare_all.Given as goal

abbrev pub invariant-loop-member : goal.invariant-loop-member
invariant-loop-member l = SoFar l.contents l.work l.initial.members l.members l.member-index
