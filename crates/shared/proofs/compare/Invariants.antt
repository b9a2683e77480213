-- `compare` meets its contract. The invariant: the members before member i are compared, and the table tells of them. Assumes nothing.
use Rattle.shared.proofs.SharedLaws.{Compared}
use Rattle.shared.proofs.compare.Given as goal

abbrev pub invariant-loop-i : goal.invariant-loop-i
invariant-loop-i l = Compared l.index l.contents l.members l.table l.stop l.initial.work l.work l.i
