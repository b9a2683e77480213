-- `resolve::resolved_length` meets its contract. The invariant: the parts found make up a text of `n` bytes. Assumes nothing.
use Rattle.path.specs.Backward.{weight}
use Rattle.resolve.proofs.ResolveLaws.{Measured}
use Rattle.resolve.proofs.resolved_length.Given as goal

abbrev pub invariant-loop-before : goal.invariant-loop-before
invariant-loop-before l = Measured l.dir l.path l.n l.c

abbrev pub decreases-loop-before : goal.decreases-loop-before
decreases-loop-before l = weight l.dir l.c
