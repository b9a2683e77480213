-- `resolve::put_resolved` meets its contract. The invariant: the parts found are written from `at` to the end. Assumes nothing.
use Rattle.path.specs.Backward.{weight}
use Rattle.resolve.proofs.ResolveLaws.{Written}
use Rattle.resolve.proofs.put_resolved.Given as goal

abbrev pub invariant-loop-before : goal.invariant-loop-before
invariant-loop-before l = Written l.dir l.path l.end l.initial.out l.out l.at l.c

abbrev pub decreases-loop-before : goal.decreases-loop-before
decreases-loop-before l = weight l.dir l.c
